-- The types of a reference that is made.
use Rattle.std.proofs.Common.{◌≡◌, sym, ◌∙◌, ap}
use Rattle.type_model.specs.Types.{Typ, Arrow}
use Rattle.typing_model.specs.BuiltIns.{list_type}
use Rattle.model_checks.proofs.Later.{left, right}
use Rattle.prelude_checks.specs.Found.{ref_type}

-- ref applied to a list: the list, the reference, and ref itself
pub applied_ref : (head l0 l1 list a x : Typ) → head ≡ Arrow a (ref_type a) → head ≡ Arrow l0 l1 → list ≡ l0 → list ≡ list_type x →
    (l0 ≡ list_type x) × (l1 ≡ ref_type (list_type x)) × (head ≡ Arrow (list_type x) (ref_type (list_type x)))
applied_ref head l0 l1 list a x h k i e =
    let p : l0 ≡ list_type x = sym i ∙ e in
    let q : a ≡ list_type x = ap left (sym h ∙ k) ∙ p in
    (p, ap right (sym k ∙ h) ∙ ap ref_type q, h ∙ ap (λ t. Arrow t (ref_type t)) q)
