-- A field of a record, from what its label and its part carry.
use Rattle.std.proofs.Common.{◌≡◌, ◌∙◌, ◌++◌, ℕ, Bool, List, [], ◌∷◌, Option, ap, append-nil, if◌then◌else◌, refl}
use Rattle.std.specs.Prelude.{None, slice_get}
use Rattle.type_model.specs.Types.{Typ}
use Rattle.signature_model.specs.Declarations.{Declaration, Label}
use Rattle.typing_model.specs.Contexts.{Context}
use Rattle.typing_model.specs.Names.{used_at}
use Rattle.typing_model.specs.Parts.{Expression, Written}
use Rattle.typing_model.specs.Expressions.{is_of}
use Rattle.env_table.specs.declared.entries.Entry.{Entry}
use Rattle.typing_state.specs.declared.parts.Parts.{Parts}
use Rattle.typing_state.specs.Goes.{Goes}
use Rattle.typing_conditions.specs.Sights.{own}
use Rattle.typing_conditions.proofs.Carried.{carried_trans}
use Rattle.typing_conditions.proofs.Meaning.{means_on, all_mean_on}
use Rattle.typing_conditions.proofs.Nodes.{same_made}
use Rattle.typing_conditions.proofs.Recording.{ends_own}
use Rattle.typing_conditions.proofs.Hiding.{owns_also, owns_node, owns_row}
use Rattle.typing_conditions.proofs.Branching.{carried_after}
use Rattle.typing_conditions.proofs.Surrounding.{surrounds_on}
use Rattle.typing_steps.specs.States.{is_aloud}
use Rattle.typing_steps.specs.Typing.{TypesAny}
use Rattle.typing_steps.specs.Building.{used_by, label_in_scope, IsLabelOf, TypesLabel, TypesNoLabel}
use Rattle.typing_rows.specs.Asked.{has_if, label_ends, field_ends}
use Rattle.typing_rows.specs.Contracts.{AsksAt, EndsRow}

-- what is asked where a label of these types is found
pub found_ends : (c : Context) (n : ℕ) (es : List Expression) (o : Option (Declaration × Label)) (owner body : Typ) {mutable : Bool} → IsLabelOf owner body mutable o →
    label_ends c n es o ≡ has_if c n 1 (slice_get es 0) (used_by n owner c.chosen) ++ is_of c n (used_by n body c.chosen)
found_ends c n es o owner body h =
    ap (label_ends c n es) h.is ∙ ap (λ t. has_if c n 1 (slice_get es 0) (used_at c n t) ++ is_of c n (used_at c n h.label.body)) h.owned ∙
    ap (λ t. has_if c n 1 (slice_get es 0) (used_by n owner c.chosen) ++ is_of c n (used_at c n t)) h.typed

-- e . l, where the label is found: the part is the record, and the whole is the field
pub ends_field : (a b d : Parts) (env : List Entry) (es : List Expression) (ms : List ℕ) (p : Written) (record_node field : ℕ) (mutable : Bool) → TypesLabel a b env p record_node field mutable → Goes a b → AsksAt b d env es ms 0 record_node →
    EndsRow a d env (field_ends p es) es ms field
ends_field a b d env es ms p record_node field mutable label goes asked = λ aloud F scope G n its names all.
    let k = label aloud F scope G n n names in
    let q = asked (ap is_aloud goes.telling ∙ aloud) F scope (k.letters ++ G) n 1 (used_by n k.owner) its (surrounds_on k.carried.stays names) (all_mean_on k.carried.stays all) k.of_record in
    let behind = carried_after k.carried (λ V c loose under agrees named kept. ap (label_ends c n es) (ap (λ v. if v then label_in_scope c.env p else None) (k.kept c kept)) ∙ found_ends c n es (label_in_scope c.env p) k.owner k.body (k.finds V c loose under agrees named))
    (carried_trans q (same_made (own n) (λ t. tt) (means_on q.stays k.of_field))) in
    record {
      own = (own n, field) ∷ k.letters;
      type = λ ch. ch.type_at n;
      first = λ c. field_ends p es c n;
      ends = λ c. [];
      all = λ c. append-nil (field_ends p es c n);
      typed = record { carried = behind; means = record { open_node = (means_on q.stays k.of_field).open_node; is = λ V ch loose g. g.given.0.is } };
      owns = λ is_known. owns_also (own n) refl refl (owns_row k.of_row);
      end = ends_own n;
    }

-- where it isn't found, the whole is of any type
pub ends_field_unknown : (a b d : Parts) (env : List Entry) (es : List Expression) (ms : List ℕ) (p : Written) (m : ℕ) → TypesNoLabel a b env p → Goes a b → TypesAny b d m → EndsRow a d env (field_ends p es) es ms m
ends_field_unknown a b d env es ms p m label goes any = λ aloud F scope G n its names all.
    let k = label aloud F scope G n names in
    let v = any F scope G (own n) (λ t. tt) (k.carried.stays.reaches names.reached) in
    record {
      own = (own n, m) ∷ [];
      type = λ ch. ch.type_at n;
      first = λ c. field_ends p es c n;
      ends = λ c. [];
      all = λ c. append-nil (field_ends p es c n);
      typed = record { carried = carried_after k.carried (λ V c loose under agrees named kept. ap (label_ends c n es) (k.none V c loose under agrees named kept)) v.carried; means = v.means };
      owns = λ is_known. owns_node (own n) refl refl;
      end = ends_own n;
    }
