-- A constructor without arguments, from what its use carries.
use Rattle.std.proofs.Common.{◌≡◌, ◌∙◌, ◌++◌, ◌==◌, ℕ, Bool, true, false, List, [], ◌∷◌, Option, Some, None, refl, ap, append-nil, if◌then◌else◌}
use Rattle.token_model.specs.Kinds.{Tok, Kind, upper}
use Rattle.tree_model.specs.Rows.{econ_row, epath_row}
use Rattle.tree_model.specs.Trees.{Place, Tree}
use Rattle.row_parts.specs.Numbered.{token_in, path_in}
use Rattle.signature_model.specs.Entries.{constructor_kind}
use Rattle.typing_model.specs.Demands.{Condition, same, test, arity, constructor_word}
use Rattle.typing_model.specs.Contexts.{Context, is_kept, ask, type_at}
use Rattle.typing_model.specs.Names.{Built, ask_bound, used_at}
use Rattle.typing_model.specs.Parts.{Expression, Written, place_of}
use Rattle.typing_model.specs.Patterns.{built_by, constructor_alone, taken_by, with_built}
use Rattle.typing_model.specs.Expressions.{expression_row, constructor_expression, path_expression}
use Rattle.env_table.specs.declared.entries.Entry.{Entry}
use Rattle.typing_state.specs.declared.parts.Parts.{Parts}
use Rattle.typing_conditions.specs.Sights.{own}
use Rattle.typing_conditions.proofs.Carried.{carried_as, carried_refl}
use Rattle.typing_conditions.proofs.Nodes.{same_made}
use Rattle.typing_conditions.proofs.Recording.{ends_own}
use Rattle.typing_conditions.proofs.Hiding.{owns_also, owns_node, owns_row}
use Rattle.typing_conditions.proofs.Branching.{carried_after}
use Rattle.typing_steps.specs.Typing.{TypesRow}
use Rattle.typing_steps.specs.Building.{building_in, construction_asks, TypesConstructor}
use Rattle.operand_laws.specs.Formed.{row_of}
use Rattle.operand_laws.specs.Operands.{number_of, parts_of, path_of}
use Rattle.operand_laws.proofs.Tokens.{path_stands}
use Rattle.typing_rows.specs.CarriedRows.{is_upper, names_constructor}
use Rattle.typing_rows.specs.Asked.{under_minus, row_expression}
use Rattle.typing_rows.proofs.Ending.{row_as}
use Rattle.typing_rows.proofs.Terms.{path_term}
use Rattle.typing_rows.proofs.Typed.{under_as}

-- what the node of a constructor without arguments is asked at its end, by what is found: the result as it is used there
abbrev pub ends_as_built : Context → ℕ → Option Built → List Condition
ends_as_built c n o = elim o [ None ↦ [] | Some b ↦ same (type_at c n) (used_at c n b.result) ∷ [] ]

-- the same of a path that is written so
abbrev pub ends_by : Context → ℕ → Written → List Condition
ends_by c n p = ends_as_built c n (if is_kept c n 0 then building_in c.env p else None)

-- a constructor without arguments asks its demands and then this
alone_splits : (c : Context) (n : ℕ) (qs : List Tok) (last : Option Tok) →
    construction_asks c n (record { qualifiers = qs; last = last }) 0 ++ ends_by c n (record { qualifiers = qs; last = last }) ≡ constructor_alone c n (record { qualifiers = qs; last = last })
alone_splits c n qs None = by (is_kept c n 0)
  where
    by : (k : Bool) → ends_as_built c n (if k then None else None) ≡ []
    by true = refl
    by false = refl
alone_splits c n qs (Some t) = by (built_by c n (record { qualifiers = qs; last = Some t }) t)
  where
    by : (o : Option Built) → (ask_bound c n 0 constructor_kind constructor_word (record { qualifiers = qs; last = Some t }) t ++ elim o [ None ↦ [] | Some b ↦ ask n 1 (place_of t) (test (arity t.name (taken_by b) 0) (taken_by b == 0)) ]) ++ ends_as_built c n o ≡
        ask_bound c n 0 constructor_kind constructor_word (record { qualifiers = qs; last = Some t }) t ++ elim o [ None ↦ [] | Some b ↦ with_built c n n t 0 b (n ∷ []) [] ]
    by None = refl
    by (Some b) = refl

-- A constructor without arguments, as a row: its node's type is its own.
pub alone_typed : (a b : Parts) {env : List Entry} (qs : List Tok) (last : Option Tok) (known : Bool) (m : ℕ) (argument : Option ℕ) (n : ℕ) → TypesConstructor a b env (record { qualifiers = qs; last = last }) 0 known m argument →
    TypesRow a b env (λ c. constructor_alone c n (record { qualifiers = qs; last = last })) n m
alone_typed a b {env} qs last true m argument n typed aloud F scope G its names =
    let k = typed aloud F scope G n n names in
    record {
      own = (own n, m) ∷ k.letters;
      type = λ ch. ch.type_at n;
      first = λ c. constructor_alone c n (record { qualifiers = qs; last = last });
      ends = λ c. [];
      all = λ c. append-nil (constructor_alone c n (record { qualifiers = qs; last = last }));
      typed = record {
        carried = carried_as (λ c. alone_splits c n qs last) (carried_after k.carried
            (λ V c loose under agrees named kept. ap (ends_as_built c n) (ap (λ v. if v then building_in c.env (record { qualifiers = qs; last = last }) else None) (k.kept c kept) ∙ k.finds V c loose under agrees named)) (same_made (own n) (λ t. tt) k.builds));
        means = record { open_node = k.builds.open_node; is = λ V ch loose g. g.given.0.is };
      };
      owns = λ is_known. owns_also (own n) refl refl (owns_row k.of_row);
      end = ends_own n;
    }
alone_typed a b {env} qs last false m argument n typed aloud F scope G its names =
    let k = typed.1 aloud F scope G n (own n) (λ t. tt) names in
    record {
      own = (own n, m) ∷ [];
      type = λ ch. ch.type_at n;
      first = λ c. constructor_alone c n (record { qualifiers = qs; last = last });
      ends = λ c. [];
      all = λ c. append-nil (constructor_alone c n (record { qualifiers = qs; last = last }));
      typed = record {
        carried = carried_as (λ c. alone_splits c n qs last) (carried_after k.typed.carried (λ V c loose under agrees named kept. ap (ends_as_built c n) (k.none V c loose under agrees named kept)) carried_refl);
        means = k.typed.means;
      };
      owns = λ is_known. owns_node (own n) refl refl;
      end = ends_own n;
    }

-- A
pub constructor_term : (i n : ℕ) (at : Place) (t : Tree) → row_of t ≡ econ_row → row_expression i n at t ≡ constructor_expression (number_of i n) at (path_of (path_in t 9 0))
unfolding expression_row
constructor_term i n at t row = ap (λ q. expression_row q (number_of i n) at (parts_of i n t)) row ∙ ap (λ p. constructor_expression (number_of i n) at p) (path_stands i n t 9 0)

pub constructor_row : (a b : Parts) (env : List Entry) (i n : ℕ) (at : Place) (t : Tree) (negated : Bool) (m : ℕ) → row_of t ≡ econ_row → TypesRow a b env (λ c. constructor_alone c (number_of i n) (path_of (path_in t 9 0))) (number_of i n) m →
    TypesRow a b env (λ c. (under_minus negated (row_expression i n at t)).typed c) (number_of i n) m
constructor_row a b env i n at t negated m row typed = λ aloud F scope G its s.
    row_as (λ c. under_as negated (row_expression i n at t) (constructor_expression (number_of i n) at (path_of (path_in t 9 0))) c (constructor_term i n at t row) refl) (typed aloud F scope G its s)

-- what a path asks that names a constructor
record AsksConstructor (n : ℕ) (p : Written) (e : Expression) (c : Context) : Type 0 where
  typed : constructor_alone c n p ≡ e.typed c
  same_under : e.negated c ≡ e.typed c

constructor_by_kind : (n : ℕ) (at : Place) (q : List Tok) (start end col : ℕ) (name : List ℕ) (k : Kind) (c : Context) → is_upper k ≡ true →
    let p : Written = record { qualifiers = q; last = Some (record { kind = k; start = start; end = end; col = col; name = name }) } in AsksConstructor n p (path_expression n at p) c
constructor_by_kind n at q start end col name upper c h = record { typed = refl; same_under = refl }
constructor_by_kind n at q start end col name _ c h = absurd (cc)

asks_constructor : (n : ℕ) (at : Place) (p : Written) (c : Context) → names_constructor p.last ≡ true → AsksConstructor n p (path_expression n at p) c
asks_constructor n at p c h = by p.last h
  where
    by : (o : Option Tok) → names_constructor o ≡ true → let w : Written = record { qualifiers = p.qualifiers; last = o } in AsksConstructor n w (path_expression n at w) c
    by None h = absurd (cc)
    by (Some t) h = constructor_by_kind n at p.qualifiers t.start t.end t.col t.name t.kind c h

-- M.A
pub constructor_path_row : (a b : Parts) (env : List Entry) (i n : ℕ) (at : Place) (t : Tree) (negated : Bool) (m : ℕ) → row_of t ≡ epath_row → names_constructor (token_in t 1) ≡ true →
    TypesRow a b env (λ c. constructor_alone c (number_of i n) (path_of (path_in t 0 1))) (number_of i n) m → TypesRow a b env (λ c. (under_minus negated (row_expression i n at t)).typed c) (number_of i n) m
constructor_path_row a b env i n at t negated m row names typed = λ aloud F scope G its s.
    let p = path_of (path_in t 0 1) in
    let asks = λ (c : Context). asks_constructor (number_of i n) at p c names in
    row_as (λ c. (asks c).typed ∙ under_as negated (row_expression i n at t) (path_expression (number_of i n) at p) c (path_term i n at t row) (asks c).same_under) (typed aloud F scope G its s)
