-- The types of the first environment: all that is in it is made of them, a path of names reaches each of them, and none is a rigid variable.
use Rattle.std.proofs.Common.{◌≡◌, ◌<◌, ℕ, zero, suc, Bool, true, false, not, ◌&&◌, List, [], ◌∷◌, map, Option, Some, None, refl, sym, ◌∙◌, ap, subst, arith, inl, inr}
use Rattle.std.proofs.lemmas.Slice.Eq.{bytes_eq-Decides}
use Rattle.tree_model.specs.Slots.{is_operand}
use Rattle.grammar_model.specs.Rows.{chain_of, grower_of}
use Rattle.grammar_model.specs.Ocaml.{rows}
use Rattle.grammar_model.specs.Tables.{first_place}
use Rattle.grammar_model.specs.Keys.{kind_key, key_of}
use Rattle.recovery_model.specs.Steps as rules
use Rattle.recovery_model.specs.Recovery.{step, close, recover}
use Rattle.type_model.specs.Types.{Path, Typ, Typs, Var, Arrow, Tuple, Con, Nil, Cons}
use Rattle.type_model.specs.Origins.{same_path}
use Rattle.type_model.proofs.Applying.{or_cases}
use Rattle.signature_model.specs.Declarations.{Name}
use Rattle.signature_model.specs.Changes.{among}
use Rattle.signature_model.specs.Entries.{Entry, Environment, type_kind}
use Rattle.signature_model.specs.Lookups.{newest_by, found, is_named}
use Rattle.type_print_model.specs.Paths.{NamePath, Reaches, origin_made, naming}
use Rattle.typing_model.specs.BuiltIns.{built_in_origin, constant_by}
use Rattle.typing_model.specs.Patterns.{pattern_row}
use Rattle.typing_model.specs.Expressions.{expression_row}
use Rattle.typing_model.specs.TypeExpressions.{type_row}
use Rattle.typing_model.specs.Modules.{module_expression_row, module_type_row, item_row, signature_item_row}
use Rattle.typing_model.specs.First.{behind_prelude, IsFirst}
use Rattle.print_laws.specs.Rigid.{is_rigid, HasNoRigid, HaveNoRigid}
use Rattle.settled_types.specs.Made.{is_made_of, are_made_of, names_made_of, Constructors}
use Rattle.prelude_checks.specs.FirstTypes.{first_types}
use Rattle.prelude_checks.proofs.Checked.{both}
use Rattle.prelude_checks.proofs.Chosen.{choice}
use Rattle.prelude_checks.proofs.Ones.{first_one}
use Rattle.prelude_checks.proofs.Tokens.{tokens}

-- their origins
abbrev pub first_origins : List Path
first_origins = map (λ t. t.1) first_types

pub built_in_there : (k : ℕ) → k < 8 → among (built_in_origin k) first_origins ≡ true
built_in_there zero h = refl
built_in_there (suc zero) h = refl
built_in_there (suc (suc zero)) h = refl
built_in_there (suc (suc (suc zero))) h = refl
built_in_there (suc (suc (suc (suc zero)))) h = refl
built_in_there (suc (suc (suc (suc (suc zero))))) h = refl
built_in_there (suc (suc (suc (suc (suc (suc zero)))))) h = refl
built_in_there (suc (suc (suc (suc (suc (suc (suc zero))))))) h = refl
built_in_there (suc (suc (suc (suc (suc (suc (suc (suc k)))))))) h = absurd (omega arith)

abbrev pub first_constructors : Constructors
first_constructors = record { all = first_origins; built_in = built_in_there }

-- all is made of them
one_made : names_made_of first_origins (behind_prelude tokens choice) ≡ true
unfolding recover step close rules.step rows chain_of grower_of first_place kind_key key_of is_operand constant_by pattern_row expression_row type_row module_expression_row module_type_row item_row signature_item_row
one_made = refl

pub first_made : (env : Environment) → IsFirst env → names_made_of first_origins env ≡ true
first_made env first = subst (λ z. names_made_of first_origins z ≡ true) (sym (first_one env first)) one_made

-- whether a name finds the type of an origin
abbrev is_origin : Path → Option Path → Bool
is_origin o None = false
is_origin o (Some p) = same_path o p

abbrev makes : Path → Option Entry → Bool
makes o None = false
makes o (Some e) = is_origin o (origin_made e.stands_for)

abbrev all_found : Environment → List (Name × Path) → Bool
all_found env [] = true
all_found env (t ∷ ts) = makes t.1 (newest_by (is_named type_kind t.0) env) && all_found env ts

one_found : all_found (behind_prelude tokens choice) first_types ≡ true
unfolding recover step close rules.step rows chain_of grower_of first_place kind_key key_of is_operand constant_by pattern_row expression_row type_row module_expression_row module_type_row item_row signature_item_row
one_found = refl

-- so a path of one name reaches each of them
reaches_made : (env : Environment) (n : Name) (o : Path) (f : Option Entry) → newest_by (is_named type_kind n) env ≡ f → makes o f ≡ true → (p : NamePath) × Reaches naming env o p
reaches_made env n o None is h = absurd (cc)
reaches_made env n o (Some e) is h = (record { modules = []; name = n }, record { entry = e; found = ap found is; makes = by (origin_made e.stands_for) refl h })
  where
    by : (q : Option Path) → origin_made e.stands_for ≡ q → is_origin o q ≡ true → origin_made e.stands_for ≡ Some o
    by None i g = absurd (cc)
    by (Some p) i g = i ∙ ap Some (sym ((bytes_eq-Decides o p).0 g))

reached_among : (env : Environment) (ts : List (Name × Path)) → all_found env ts ≡ true → (o : Path) → among o (map (λ t. t.1) ts) ≡ true → (p : NamePath) × Reaches naming env o p
reached_among env [] h o m = absurd (cc)
reached_among env (t ∷ ts) h o m =
    let (f, g) = both (makes t.1 (newest_by (is_named type_kind t.0) env)) (all_found env ts) h in
    elim (or_cases (same_path o t.1) (among o (map (λ t. t.1) ts)) m) [
      | inl i ↦ subst (λ q. (p : NamePath) × Reaches naming env q p) (sym ((bytes_eq-Decides o t.1).0 i)) (reaches_made env t.0 t.1 (newest_by (is_named type_kind t.0) env) refl f)
      | inr i ↦ reached_among env ts g o i
    ]

pub first_reached : (env : Environment) → IsFirst env → (o : Path) → among o first_origins ≡ true → (p : NamePath) × Reaches naming env o p
first_reached env first o m = subst (λ z. (p : NamePath) × Reaches naming z o p) (sym (first_one env first)) (reached_among (behind_prelude tokens choice) first_types one_found o m)

-- and none is a rigid variable
abbrev none_rigid : List Path → Bool
none_rigid [] = true
none_rigid (o ∷ os) = not (is_rigid o) && none_rigid os

not_true : (b : Bool) → not b ≡ true → b ≡ false
not_true true h = absurd (cc)
not_true false h = refl

clean_among : (os : List Path) → none_rigid os ≡ true → (o : Path) → among o os ≡ true → is_rigid o ≡ false
clean_among [] h o m = absurd (cc)
clean_among (p ∷ os) h o m =
    let (f, g) = both (not (is_rigid p)) (none_rigid os) h in
    elim (or_cases (same_path o p) (among o os) m) [ inl i ↦ subst (λ q. is_rigid q ≡ false) (sym ((bytes_eq-Decides o p).0 i)) (not_true (is_rigid p) f) | inr i ↦ clean_among os g o i ]

mutual
  pub first_clean : (t : Typ) → is_made_of first_origins t ≡ true → HasNoRigid t
  first_clean (Var v) h = tt
  first_clean (Arrow a b) h = let (f, g) = both (is_made_of first_origins a) (is_made_of first_origins b) h in (first_clean a f, first_clean b g)
  first_clean (Tuple ts) h = all_clean ts h
  first_clean (Con o ts) h = let (f, g) = both (among o first_origins) (are_made_of first_origins ts) h in (clean_among first_origins refl o f, all_clean ts g)

  all_clean : (ts : Typs) → are_made_of first_origins ts ≡ true → HaveNoRigid ts
  all_clean Nil h = tt
  all_clean (Cons t ts) h = let (f, g) = both (is_made_of first_origins t) (are_made_of first_origins ts) h in (first_clean t f, all_clean ts g)
