-- What uses of values and constants carry of the conditions that the definitions ask.
use Rattle.std.proofs.Common.{◌≡◌, ◌∙◌, ◌⊎◌, inl, inr, ◌++◌, ℕ, Bool, true, false, List, [], ◌∷◌, Option, Some, None, refl, sym, subst, arith}
use Rattle.std.specs.Prelude.{option_map, option_and_then}
use Rattle.std.specs.Prelude.{Result, Ok, Err, IfOk}
use Rattle.text_terms.specs.declared.Span.{Span}
use Rattle.std.specs.declared.alloc.AllocError.{AllocError}
use denote.Ref.{Bor}
use Rattle.token_model.specs.Kinds.{Tok}
use Rattle.syntax_tree.specs.View as view
use Rattle.syntax_tree.specs.Names.{kind_of}
use Rattle.syntax_tree.specs.declared.tree.Token.{Token}
use Rattle.syntax_tree.specs.declared.kinds.TokenKind.{TokenKind}
use Rattle.syntax_tree.specs.declared.kinds.TokenKind.TheVariants as code
use Rattle.type_model.specs.Types.{Typ}
use Rattle.signature_model.specs.Lookups.{FoundAmong, an_entry, a_hole, nothing}
use Rattle.typing_model.specs.Demands.{site, value_word, same, too_large}
use Rattle.typing_model.specs.Contexts.{Context, letter, type_at}
use Rattle.typing_model.specs.Names.{names_of}
use Rattle.typing_model.specs.Expressions.{value_asks}
use Rattle.typing_model.specs.BuiltIns.{list_type, in_range, constant, constant_by}
use Rattle.type_terms.specs.declared.types.NodeRef.{NodeRef}
use Rattle.type_nodes.specs.Nodes.{Con, IsNode}
use Rattle.type_nodes.specs.Changes.{Makes}
use Rattle.env_table.specs.declared.entries.Entry.{Entry}
use Rattle.env_table.specs.declared.entries.Kind.TheVariants as kind
use Rattle.env_table.specs.declared.faults.FaultKind.{FaultKind}
use Rattle.env_table.specs.declared.faults.FaultKind.TheVariants as fault
use Rattle.typing_state.specs.declared.parts.Parts.{Parts}
use Rattle.typing_state.specs.declared.messages.Word.TheVariants as word
use Rattle.typing_state.specs.Goes.{faults_of, OnlyStore, OnlyFaults, Told}
use Rattle.typing_state.specs.Messages.{too_large_text}
use Rattle.typing_state.specs.Types.{MakesVar, any_scope, list_path}
use Rattle.typing_state.specs.Bound.{found_at, lost_among, BoundIs}
use Rattle.std.specs.Prelude.{codes}
use Rattle.typing_conditions.specs.Standing.{IsIn}
use Rattle.typing_conditions.specs.Sights.{Sight, letter as chosen_letter, value_of, Letters}
use Rattle.typing_conditions.specs.Frames.{Frame}
use Rattle.typing_conditions.specs.Meanings.{Means}
use Rattle.typing_conditions.specs.Carrying.{Asks, Scope, Carried, CarriedTo}
use Rattle.typing_conditions.proofs.Carried.{carried_refl}
use Rattle.typing_conditions.proofs.Hiding.{below_none, below_more, owns_none, owns_row}
use Rattle.typing_conditions.proofs.Meaning.{means_more, fixed_on}
use Rattle.typing_conditions.proofs.Recording.{ends_same}
use Rattle.typing_conditions.proofs.Answering.{then_made}
use Rattle.typing_steps.specs.States.{sight}
use Rattle.typing_steps.specs.Demands.{TestedAs}
use Rattle.typing_steps.specs.Typing.{as_declared, TypesOwn, TypesAny, RowCarried, TypesRow}
use Rattle.typing_steps.proofs.Making.{var_made, list_over}
use Rattle.typing_steps.proofs.Testing.{test_asked}
use Rattle.typing_steps.proofs.Naming.{LooksUp, value_found, value_lost, value_in_hole}
use Rattle.typing_steps.proofs.Valued.{value_has_root}
use Rattle.typing_steps.proofs.Rows.{var_any, row_any, row_asks}
use Rattle.use_typing.specs.Uses.{scheme_in, InstanceOf, UsesScheme}

-- a path whose last name is missing may have any type
pub value_missing : (a d : Parts) {env : List Entry} {m : ℕ} (qs : List Tok) (n k : ℕ) → MakesVar a d m any_scope → OnlyStore a d → TypesOwn a d env (λ c t. value_asks c n k (record { qualifiers = qs; last = None }) t) m
value_missing a d qs n k made rest aloud F scope G key free at = var_any a d made rest F scope G key free at.reached

-- a path to a last name: its demand, and an instance of the scheme that it finds
pub value_typed : (a b d : Parts) {env : List Entry} {m : NodeRef} (given : Option Entry) (qs : List Tok) (t : Tok) (n k : ℕ) → BoundIs (found_at env qs kind.Value t) given a b (lost_among env qs) t word.Value →
    UsesScheme (option_and_then scheme_in (option_map (λ (e : Entry). e.what) given)) b d m → OnlyStore b d → TypesOwn a d env (λ c u. value_asks c n k (record { qualifiers = qs; last = Some t }) u) m.0
value_typed a b d {env} {m} given qs t n k bound uses rest aloud F scope G key free at = by (found_at env qs kind.Value t) refl bound
  where
    looks : LooksUp as_declared F scope G env a b given word.Value qs t
    looks = record { names = at; aloud = aloud; bound = bound }

    by : (f : FoundAmong Entry) → found_at env qs kind.Value t ≡ f → BoundIs f given a b (lost_among env qs) t word.Value →
        CarriedTo F scope (λ c. value_asks c n k (record { qualifiers = qs; last = Some t }) (value_of c.chosen key)) (sight a) G (sight d) ((key, m.0) ∷ G) (λ ch. value_of ch key) m.0
    by (an_entry e) finds is =
        let root = value_has_root (λ r sc. IsIn at.roots r) (as_declared.declaration a.store.nodes at.roots at.names) (as_declared.exception a.store.nodes at.roots at.names) (names_of qs) t.name e finds at.covered.1 in
        let used : InstanceOf b d root.0 m = subst (λ w. UsesScheme (scheme_in w) b d m) root.1 (subst (λ o. UsesScheme (option_and_then scheme_in (option_map (λ (x : Entry). x.what) o)) b d m) is.0 uses) in
        value_found a b d looks value_word refl (site n k) key free finds root.1 used.sound used.instance rest
    by a_hole finds is = value_in_hole a b d looks value_word refl (site n k) key free finds (subst (λ o. UsesScheme (option_and_then scheme_in (option_map (λ (x : Entry). x.what) o)) b d m) is.0 uses) rest
    by nothing finds is = value_lost a b d looks value_word refl (site n k) key free finds (subst (λ o. UsesScheme (option_and_then scheme_in (option_map (λ (x : Entry). x.what) o)) b d m) is.0 uses) rest

-- what a constant asks first, and then that its node has the type of a node that all constants of its kind share
fixed_row : {F : Frame} {scope : Scope} {first : Asks} {a b : Sight} {G : Letters} {t : Typ} {m : ℕ} (n : ℕ) → Carried F scope first a G b G → Means F b [] (λ ch. t) m → RowCarried F scope (λ c. first c ++ same (type_at c n) t ∷ []) a G b n m
fixed_row {first = first} {t = t} n carried means = record {
  own = [];
  type = λ ch. t;
  first = first;
  ends = λ c. same (type_at c n) t ∷ [];
  all = λ c. refl;
  typed = record { carried = carried; means = means_more means };
  owns = λ known. owns_none;
  end = ends_same n (λ ch. t);
}

-- a kind that is none of a constant asks nothing
pub other_asks : (k : TokenKind) → (k ≡ code.Int → ⊥) → (k ≡ code.Float → ⊥) → (k ≡ code.Char → ⊥) → (k ≡ code.Str → ⊥) → (k ≡ code.Unit → ⊥) → (k ≡ code.True → ⊥) → (k ≡ code.False → ⊥) → (k ≡ code.Nil → ⊥) →
    (negated : Bool) (t : Tok) (n : ℕ) (c : Context) → constant_by negated (kind_of k) n t c ≡ []
unfolding constant_by kind_of
other_asks code.Lower ni nf nc ns nu nt nx nn negated t n c = refl
other_asks code.Upper ni nf nc ns nu nt nx nn negated t n c = refl
other_asks code.Qualifier ni nf nc ns nu nt nx nn negated t n c = refl
other_asks code.TyVar ni nf nc ns nu nt nx nn negated t n c = refl
other_asks code.OpName ni nf nc ns nu nt nx nn negated t n c = refl
other_asks code.Unit ni nf nc ns nu nt nx nn negated t n c = absurd (nu refl)
other_asks code.Nil ni nf nc ns nu nt nx nn negated t n c = absurd (nn refl)
other_asks code.ModuleType ni nf nc ns nu nt nx nn negated t n c = refl
other_asks code.Int ni nf nc ns nu nt nx nn negated t n c = absurd (ni refl)
other_asks code.Float ni nf nc ns nu nt nx nn negated t n c = absurd (nf refl)
other_asks code.Char ni nf nc ns nu nt nx nn negated t n c = absurd (nc refl)
other_asks code.Str ni nf nc ns nu nt nx nn negated t n c = absurd (ns refl)
other_asks code.And ni nf nc ns nu nt nx nn negated t n c = refl
other_asks code.As ni nf nc ns nu nt nx nn negated t n c = refl
other_asks code.Assert ni nf nc ns nu nt nx nn negated t n c = refl
other_asks code.Begin ni nf nc ns nu nt nx nn negated t n c = refl
other_asks code.Do ni nf nc ns nu nt nx nn negated t n c = refl
other_asks code.Done ni nf nc ns nu nt nx nn negated t n c = refl
other_asks code.Downto ni nf nc ns nu nt nx nn negated t n c = refl
other_asks code.Else ni nf nc ns nu nt nx nn negated t n c = refl
other_asks code.End ni nf nc ns nu nt nx nn negated t n c = refl
other_asks code.Exception ni nf nc ns nu nt nx nn negated t n c = refl
other_asks code.False ni nf nc ns nu nt nx nn negated t n c = absurd (nx refl)
other_asks code.For ni nf nc ns nu nt nx nn negated t n c = refl
other_asks code.Fun ni nf nc ns nu nt nx nn negated t n c = refl
other_asks code.Function ni nf nc ns nu nt nx nn negated t n c = refl
other_asks code.Functor ni nf nc ns nu nt nx nn negated t n c = refl
other_asks code.If ni nf nc ns nu nt nx nn negated t n c = refl
other_asks code.In ni nf nc ns nu nt nx nn negated t n c = refl
other_asks code.Include ni nf nc ns nu nt nx nn negated t n c = refl
other_asks code.Let ni nf nc ns nu nt nx nn negated t n c = refl
other_asks code.Match ni nf nc ns nu nt nx nn negated t n c = refl
other_asks code.Module ni nf nc ns nu nt nx nn negated t n c = refl
other_asks code.Mutable ni nf nc ns nu nt nx nn negated t n c = refl
other_asks code.Of ni nf nc ns nu nt nx nn negated t n c = refl
other_asks code.Open ni nf nc ns nu nt nx nn negated t n c = refl
other_asks code.Rec ni nf nc ns nu nt nx nn negated t n c = refl
other_asks code.Sig ni nf nc ns nu nt nx nn negated t n c = refl
other_asks code.Struct ni nf nc ns nu nt nx nn negated t n c = refl
other_asks code.Then ni nf nc ns nu nt nx nn negated t n c = refl
other_asks code.To ni nf nc ns nu nt nx nn negated t n c = refl
other_asks code.True ni nf nc ns nu nt nx nn negated t n c = absurd (nt refl)
other_asks code.Try ni nf nc ns nu nt nx nn negated t n c = refl
other_asks code.TypeWord ni nf nc ns nu nt nx nn negated t n c = refl
other_asks code.Val ni nf nc ns nu nt nx nn negated t n c = refl
other_asks code.When ni nf nc ns nu nt nx nn negated t n c = refl
other_asks code.While ni nf nc ns nu nt nx nn negated t n c = refl
other_asks code.With ni nf nc ns nu nt nx nn negated t n c = refl
other_asks code.LeftParen ni nf nc ns nu nt nx nn negated t n c = refl
other_asks code.RightParen ni nf nc ns nu nt nx nn negated t n c = refl
other_asks code.LeftBracket ni nf nc ns nu nt nx nn negated t n c = refl
other_asks code.RightBracket ni nf nc ns nu nt nx nn negated t n c = refl
other_asks code.LeftBrace ni nf nc ns nu nt nx nn negated t n c = refl
other_asks code.RightBrace ni nf nc ns nu nt nx nn negated t n c = refl
other_asks code.Comma ni nf nc ns nu nt nx nn negated t n c = refl
other_asks code.Semi ni nf nc ns nu nt nx nn negated t n c = refl
other_asks code.SemiSemi ni nf nc ns nu nt nx nn negated t n c = refl
other_asks code.Colon ni nf nc ns nu nt nx nn negated t n c = refl
other_asks code.Dot ni nf nc ns nu nt nx nn negated t n c = refl
other_asks code.Underscore ni nf nc ns nu nt nx nn negated t n c = refl
other_asks code.Bar ni nf nc ns nu nt nx nn negated t n c = refl
other_asks code.Arrow ni nf nc ns nu nt nx nn negated t n c = refl
other_asks code.LeftArrow ni nf nc ns nu nt nx nn negated t n c = refl
other_asks code.ColonColon ni nf nc ns nu nt nx nn negated t n c = refl
other_asks code.ColonEqual ni nf nc ns nu nt nx nn negated t n c = refl
other_asks code.Op14 ni nf nc ns nu nt nx nn negated t n c = refl
other_asks code.Op13 ni nf nc ns nu nt nx nn negated t n c = refl
other_asks code.Op12 ni nf nc ns nu nt nx nn negated t n c = refl
other_asks code.Op10 ni nf nc ns nu nt nx nn negated t n c = refl
other_asks code.Op9 ni nf nc ns nu nt nx nn negated t n c = refl
other_asks code.Op8 ni nf nc ns nu nt nx nn negated t n c = refl
other_asks code.Op7 ni nf nc ns nu nt nx nn negated t n c = refl
other_asks code.Prefix ni nf nc ns nu nt nx nn negated t n c = refl
other_asks code.Outside ni nf nc ns nu nt nx nn negated t n c = refl
other_asks code.Junk ni nf nc ns nu nt nx nn negated t n c = refl

-- a test by its truth
pub tested_kept : (a b : Parts) (at : Span) (kind : FaultKind) (message : List ℕ) (v : Bool) → v ≡ true → b ≡ a → TestedAs v a b at kind message
tested_kept a b at kind message v e stays = subst (λ t. TestedAs t a b at kind message) (sym e) stays

pub tested_told : (a b : Parts) (at : Span) (kind : FaultKind) (message : List ℕ) (v : Bool) → v ≡ false → Told a.telling (faults_of a) (faults_of b) at kind message → OnlyFaults a b → TestedAs v a b at kind message
tested_told a b at kind message v e told rest = subst (λ t. TestedAs t a b at kind message) (sym e) (told, rest)

-- what a constant carries, by its token, which may be missing
abbrev pub TypesConstant : Bool → Option (Bor Token) → (a b : Parts) → ℕ → Type 0
TypesConstant negated o a b m = (env : List Entry) (n : ℕ) → TypesRow a b env (constant negated n (option_map (λ t. view.tok_of t.now) o)) n m

module _ (a : Parts) (negated : Bool) (o : Option (Bor Token)) (t : Bor Token) (there : o ≡ Some t) where
  of_token : (b : Parts) (m : ℕ) → ((env : List Entry) (n : ℕ) → TypesRow a b env (constant_by negated (kind_of t.now.kind) n (view.tok_of t.now)) n m) → TypesConstant negated o a b m
  of_token b m h = subst (λ p. TypesConstant negated p a b m) (sym there) h

  -- constants without a demand
  pub float_typed : t.now.kind ≡ code.Float → TypesConstant negated o a a a.constants.float.0
  unfolding constant_by kind_of
  float_typed e = of_token a a.constants.float.0 (λ env n. subst (λ k. TypesRow a a env (constant_by negated (kind_of k) n (view.tok_of t.now)) n a.constants.float.0) (sym e) (λ aloud F scope G its at. fixed_row n carried_refl at.fixed.float))

  pub char_typed : t.now.kind ≡ code.Char → TypesConstant negated o a a a.constants.char.0
  unfolding constant_by kind_of
  char_typed e = of_token a a.constants.char.0 (λ env n. subst (λ k. TypesRow a a env (constant_by negated (kind_of k) n (view.tok_of t.now)) n a.constants.char.0) (sym e) (λ aloud F scope G its at. fixed_row n carried_refl at.fixed.char))

  pub string_typed : t.now.kind ≡ code.Str → TypesConstant negated o a a a.constants.string.0
  unfolding constant_by kind_of
  string_typed e = of_token a a.constants.string.0 (λ env n. subst (λ k. TypesRow a a env (constant_by negated (kind_of k) n (view.tok_of t.now)) n a.constants.string.0) (sym e) (λ aloud F scope G its at. fixed_row n carried_refl at.fixed.string))

  pub unit_typed : t.now.kind ≡ code.Unit → TypesConstant negated o a a a.constants.unit.0
  unfolding constant_by kind_of
  unit_typed e = of_token a a.constants.unit.0 (λ env n. subst (λ k. TypesRow a a env (constant_by negated (kind_of k) n (view.tok_of t.now)) n a.constants.unit.0) (sym e) (λ aloud F scope G its at. fixed_row n carried_refl at.fixed.unit))

  true_typed : t.now.kind ≡ code.True → TypesConstant negated o a a a.constants.bool.0
  unfolding constant_by kind_of
  true_typed e = of_token a a.constants.bool.0 (λ env n. subst (λ k. TypesRow a a env (constant_by negated (kind_of k) n (view.tok_of t.now)) n a.constants.bool.0) (sym e) (λ aloud F scope G its at. fixed_row n carried_refl at.fixed.bool))

  false_typed : t.now.kind ≡ code.False → TypesConstant negated o a a a.constants.bool.0
  unfolding constant_by kind_of
  false_typed e = of_token a a.constants.bool.0 (λ env n. subst (λ k. TypesRow a a env (constant_by negated (kind_of k) n (view.tok_of t.now)) n a.constants.bool.0) (sym e) (λ aloud F scope G its at. fixed_row n carried_refl at.fixed.bool))

  pub bool_typed : (t.now.kind ≡ code.True) ⊎ (t.now.kind ≡ code.False) → TypesConstant negated o a a a.constants.bool.0
  bool_typed (inl e) = true_typed e
  bool_typed (inr e) = false_typed e

  -- an integer, with its demand
  pub int_typed : (b : Parts) → t.now.kind ≡ code.Int → TestedAs (in_range negated (view.tok_of t.now).name) a b t.now.span fault.Range too_large_text → TypesConstant negated o a b b.constants.int.0
  unfolding constant_by kind_of
  int_typed b e tested = of_token b b.constants.int.0 (λ env n. subst (λ k. TypesRow a b env (constant_by negated (kind_of k) n (view.tok_of t.now)) n b.constants.int.0) (sym e) (λ aloud F scope G its s.
      let judged = test_asked a b {F = F} {scope = scope} {G = G} {at = t.now.span} too_large (site n 0) (in_range negated (view.tok_of t.now).name) aloud tested in
      fixed_row n judged.carried (fixed_on judged.carried.stays s.fixed).int))

  -- the empty list, as it is without its token
  pub nil_typed : (r : Result NodeRef AllocError) (b : Parts) → t.now.kind ≡ code.Nil → IfOk r (λ m. (env : List Entry) (n : ℕ) → TypesRow a b env (λ c. same (type_at c n) (list_type (letter c n 0)) ∷ []) n m.0) → IfOk r (λ m. TypesConstant negated o a b m.0)
  unfolding constant_by kind_of
  nil_typed (Err x) b e h = tt
  nil_typed (Ok m) b e h = of_token b m.0 (λ env n. subst (λ k. TypesRow a b env (constant_by negated (kind_of k) n (view.tok_of t.now)) n m.0) (sym e) (h env n))

  -- what is no constant may have any type
  pub other_typed : (r : Result NodeRef AllocError) (b : Parts) → ((n : ℕ) (c : Context) → constant_by negated (kind_of t.now.kind) n (view.tok_of t.now) c ≡ []) → IfOk r (λ m. MakesVar a b m.0 any_scope) → OnlyStore a b →
      IfOk r (λ m. TypesConstant negated o a b m.0)
  other_typed (Err x) b e h rest = tt
  other_typed (Ok m) b e h rest = of_token b m.0 (λ env n. row_asks a b (λ c. sym (e n c)) (row_any a b {env = env} n (var_any a b h rest)))

-- a missing one too
pub missing_typed : (r : Result NodeRef AllocError) (a b : Parts) (negated : Bool) (o : Option (Bor Token)) → o ≡ None → IfOk r (λ m. MakesVar a b m.0 any_scope) → OnlyStore a b → IfOk r (λ m. TypesConstant negated o a b m.0)
missing_typed (Err x) a b negated o e h rest = tt
missing_typed (Ok m) a b negated o e h rest = subst (λ p. TypesConstant negated p a b m.0) (sym e) (λ env n. row_any a b n (var_any a b h rest))

-- a list of a new variable
pub list_typed : (r : Result NodeRef AllocError) (a b d : Parts) (v : ℕ) → MakesVar a b v any_scope → OnlyStore a b → IfOk r (λ m. IsNode b.store.nodes v → Makes b.store d.store m.0 (Con list_path (codes "list") (v ∷ []))) → OnlyStore b d →
    IfOk r (λ m. (env : List Entry) (n : ℕ) → TypesRow a d env (λ c. same (type_at c n) (list_type (letter c n 0)) ∷ []) n m.0)
list_typed (Err x) a b d v made rest over rest' = tt
list_typed (Ok m) a b d v made rest over rest' = λ env n aloud F scope G its s.
    let element = var_made a b {scope = scope} (chosen_letter n 0) (λ t. tt) s.reached made rest in
    record {
      own = (chosen_letter n 0, v) ∷ [];
      type = λ ch. list_type (ch.letter n 0);
      first = λ c. [];
      ends = λ c. same (type_at c n) (list_type (letter c n 0)) ∷ [];
      all = λ c. refl;
      typed = then_made element.carried (list_over b d element.means over rest');
      owns = λ known. owns_row (below_more 0 1 v (omega arith) (omega arith) (below_none n 0)).of_row;
      end = ends_same n (λ ch. list_type (ch.letter n 0));
    }

-- a new variable where no type is given
pub any_given : (r : Result NodeRef AllocError) (a b : Parts) (o : Option NodeRef) → IfOk r (λ m. MakesVar a b m.0 any_scope) → OnlyStore a b → IfOk r (λ m. o ≡ None → TypesAny a b m.0)
any_given (Err x) a b o h rest = tt
any_given (Ok m) a b o h rest = λ e. var_any a b h rest

-- where one is given, there is none to be made
pub given_already : (a : Parts) (o : Option NodeRef) (ty m : NodeRef) → o ≡ Some ty → o ≡ None → TypesAny a a m.0
given_already a o ty m e none = absurd (let f : Some ty ≡ None = sym e ∙ none in cc)
