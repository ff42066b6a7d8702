-- The types of a reference that is made, and of one that is assigned to.
use Rattle.std.proofs.Common.{◌≡◌, sym, ◌∙◌, ap}
use Rattle.type_model.specs.Types.{Typ, Typs, Var, Arrow, Tuple, Con, Nil, Cons}
use Rattle.typing_model.specs.BuiltIns.{unit_type, list_type}
use Rattle.model_checks.specs.Scopes.{ref_type}
use Rattle.model_checks.proofs.Later.{left, right}

-- the first part of a type
abbrev first_of : Typs → Typ
first_of Nil = Tuple Nil
first_of (Cons t ts) = t

abbrev contents : Typ → Typ
contents (Var v) = Var v
contents (Arrow a b) = a
contents (Tuple ts) = Tuple ts
contents (Con o ts) = first_of ts

-- ref applied to a list: the list, the reference, and ref itself
pub applied_ref : (head l0 l1 list a x : Typ) → head ≡ Arrow a (ref_type a) → head ≡ Arrow l0 l1 → list ≡ l0 → list ≡ list_type x →
    (l0 ≡ list_type x) × (l1 ≡ ref_type (list_type x)) × (head ≡ Arrow (list_type x) (ref_type (list_type x)))
applied_ref head l0 l1 list a x h k i e =
    let p : l0 ≡ list_type x = sym i ∙ e in
    let q : a ≡ list_type x = ap left (sym h ∙ k) ∙ p in
    (p, ap right (sym k ∙ h) ∙ ap ref_type q, h ∙ ap (λ t. Arrow t (ref_type t)) q)

-- ( := ) applied to a reference to x: its type, and those of its arguments and results
pub assigned_to : (l0 l1 l2 l3 l4 c r x : Typ) → l0 ≡ Arrow (ref_type c) (Arrow c unit_type) → l0 ≡ Arrow l1 l2 → r ≡ l1 → r ≡ ref_type x → l2 ≡ Arrow l3 l4 →
    (l0 ≡ Arrow (ref_type x) (Arrow x unit_type)) × (l1 ≡ ref_type x) × (l2 ≡ Arrow x unit_type) × (l3 ≡ x) × (l4 ≡ unit_type)
assigned_to l0 l1 l2 l3 l4 c r x h k i e m =
    let p : l1 ≡ ref_type x = sym i ∙ e in
    let q : c ≡ x = ap contents (ap left (sym h ∙ k) ∙ p) in
    let s : l2 ≡ Arrow x unit_type = ap right (sym k ∙ h) ∙ ap (λ t. Arrow t unit_type) q in
    (h ∙ ap (λ t. Arrow (ref_type t) (Arrow t unit_type)) q, p, s, ap left (sym m ∙ s), ap right (sym m ∙ s))

-- an arrow between one type, applied
pub same_applied : (head l0 l1 argument whole a x : Typ) → head ≡ Arrow a a → head ≡ Arrow l0 l1 → argument ≡ x → argument ≡ l0 → whole ≡ l1 →
    (l0 ≡ x) × (l1 ≡ x) × (head ≡ Arrow x x) × (whole ≡ x)
same_applied head l0 l1 argument whole a x h k e i w =
    let p : l0 ≡ x = sym i ∙ e in
    let q : a ≡ x = ap left (sym h ∙ k) ∙ p in
    let r : l1 ≡ x = ap right (sym k ∙ h) ∙ q in
    (p, r, h ∙ ap (λ t. Arrow t t) q, w ∙ r)
