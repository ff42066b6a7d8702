-- A value that is put into a reference has the type of its contents.
use Rattle.std.proofs.Common.{◌≡◌, Bool, true, false, not, ◌||◌, refl, sym, ◌∙◌, ap}
use Rattle.type_model.specs.Types.{Typ, Var, Arrow, Tuple, Con}
use Rattle.typing_model.specs.BuiltIns.{unit_type, list_type}
use Rattle.model_checks.specs.Scopes.{ref_type}

-- what stands left and right of an arrow
abbrev pub left : Typ → Typ
left (Var v) = Var v
left (Arrow a b) = a
left (Tuple ts) = Tuple ts
left (Con o ts) = Con o ts

abbrev pub right : Typ → Typ
right (Var v) = Var v
right (Arrow a b) = b
right (Tuple ts) = Tuple ts
right (Con o ts) = Con o ts

-- a variable of a held type isn't bound
pub held_is_free : (a b c : Bool) → c ≡ true → not (a || (b || (c || false))) ≡ false
held_is_free true b c h = refl
held_is_free false true c h = refl
held_is_free false false c h = ap (λ x. not (x || false)) h

-- where ( := ) is applied to a reference and a value, the reference is one of the value's type
pub assigned : (reference use_ operator p rest q r contents value : Typ) → use_ ≡ reference →
    operator ≡ Arrow (ref_type contents) (Arrow contents unit_type) → operator ≡ Arrow p rest → use_ ≡ p → rest ≡ Arrow q r → value ≡ q → reference ≡ ref_type value
assigned reference use_ operator p rest q r contents value u o a b c d =
    let e : Arrow (ref_type contents) (Arrow contents unit_type) ≡ Arrow p rest = sym o ∙ a in
    let inner : contents ≡ q = ap left (ap right e ∙ c) in
    sym u ∙ b ∙ sym (ap left e) ∙ ap ref_type (inner ∙ sym d)

-- a list of what has this type
pub listed : (whole part t : Typ) → whole ≡ list_type part → part ≡ t → whole ≡ list_type t
listed whole part t w p = w ∙ ap list_type p

-- and where it is such a list
pub of_lists : (reference value t : Typ) → reference ≡ ref_type value → value ≡ list_type t → reference ≡ ref_type (list_type t)
of_lists reference value t r v = r ∙ ap ref_type v
