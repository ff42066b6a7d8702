-- Of each node of a text of `let`, `;;` and exceptions that is told with its type one text is shown.
use Rattle.std.proofs.Common.{◌≡◌, ◌∙◌, ℕ, zero, suc, Bool, true, false, List, [], ◌∷◌, Some, refl, sym, subst}
use Rattle.std.specs.Prelude.{slice_get}
use Rattle.std.specs.List.{AllZip}
use Rattle.std.proofs.Math.Path.{fun_ext}
use Rattle.tree_model.specs.Trees.{Tree}
use Rattle.query_model.specs.TypedNodes.{Typed}
use Rattle.type_model.specs.Types.{Typ, occurs}
use Rattle.type_model.proofs.Applying.{eqb_same, occurs_put}
use Rattle.signature_model.specs.Entries.{Environment}
use Rattle.type_print_model.specs.Variables.{is_among}
use Rattle.typing_model.specs.Demands.{Site}
use Rattle.typing_model.specs.Plain.{has_values_alone}
use Rattle.typing_model.specs.Typings.{conditions_of, IsKept, IsPrincipal}
use Rattle.typing_laws.specs.Renaming.{renaming, KeepsWeak, AreRenamed}
use Rattle.typing_laws.proofs.Alike.{are_renamed}
use Rattle.typing_laws.proofs.Bools.{no_yes}
use Rattle.typing_laws.proofs.Decided.{are_one}
use Rattle.typing_laws.proofs.QuietTexts.{no_closings}
use Rattle.typing_laws.proofs.Settled.{values_plain}
use Rattle.typed_model.specs.Over.{IsOver}
use Rattle.typed_model.specs.Shown.{number_of, IsTypingOf, IsShownAt, AreShown}
use Rattle.over_laws.proofs.Texts.{values_tell_typed_over}
use Rattle.shown_alike.specs.Told.{HasNone, type_at, IsTold}
use Rattle.shown_alike.proofs.Texts.{shown_one}

-- the same demands are kept in two typings from one environment
demands_of_one : (items : List Tree) → has_values_alone items ≡ true → (env : Environment) (kept others : Site → Bool) → IsKept env items kept → IsKept env items others → kept ≡ others
demands_of_one items values env kept others k o = fun_ext (are_one env items kept others k o (λ s x y same. absurd (no_yes (sym (no_closings env items kept (values_plain items values) s) ∙ x))))

pub kept_one : (items : List Tree) → has_values_alone items ≡ true → (a b : IsTypingOf items) → a.env ≡ b.env → a.kept ≡ b.kept
kept_one items values a b same = demands_of_one items values a.env a.kept b.kept a.keeps (subst (λ E. IsKept E items b.kept) (sym same) b.keeps)

-- the types of two such typings from one environment are renamings of each other
typings_of_one : (items : List Tree) → has_values_alone items ≡ true → (env : Environment) (kept others : Site → Bool) (types shown : ℕ → Typ) → IsKept env items kept → IsKept env items others → IsPrincipal env items kept types → IsPrincipal env items others shown →
    AreRenamed types shown
typings_of_one items values env kept others types shown k o p q =
    let same : kept ≡ others = demands_of_one items values env kept others k o in
    are_renamed kept (conditions_of env items kept) types shown p (subst (λ z. IsPrincipal env items z shown) (sym same) q)

pub typings_renamed : (items : List Tree) → has_values_alone items ≡ true → (a b : IsTypingOf items) → a.env ≡ b.env → AreRenamed a.choice.type_at b.choice.type_at
typings_renamed items values a b same =
    typings_of_one items values a.env a.kept b.kept a.choice.type_at b.choice.type_at a.keeps (subst (λ E. IsKept E items b.kept) (sym same) b.keeps) a.principal (subst (λ E. IsPrincipal E items b.kept b.choice.type_at) (sym same) b.principal)

-- each environment in which a node is told with its type has values and exceptions alone in front of the first one
told_over : (items : List Tree) → has_values_alone items ≡ true → (a : IsTypingOf items) (n : Typed) (h : IsTold a n) → IsOver a.env h.names
told_over items values a n h = values_tell_typed_over a.env items a.kept a.choice values (number_of n.id) h.names (type_at a n) h.told

-- The texts of a node in two typings are one, where the renaming keeps which variables are weak.
pub node_shown : (items : List Tree) → has_values_alone items ≡ true → (a b : IsTypingOf items) → a.env ≡ b.env → (r : AreRenamed a.choice.type_at b.choice.type_at) (weak weaks : List ℕ) (n : Typed) → KeepsWeak r.forth weak weaks (type_at a n) →
    IsTold a n → IsTold b n → (shown other : List ℕ) → IsShownAt a weak n shown → IsShownAt b weaks n other → shown ≡ other
node_shown items values a b same r weak weaks n keeps first second shown other h g =
    shown_one (told_over items values a n first) (subst (λ E. IsOver E second.names) (sym same) (told_over items values b n second)) a.choice.type_at b.choice.type_at r weak weaks (number_of n.id) keeps shown other
    (h.each first.names (type_at a n) first.told) (g.each second.names (type_at b n) second.told)

-- what is so of the elements of two lists at each place
at_place : {A B : Type 0} (R : A → B → Type 0) (xs : List A) (ys : List B) → AllZip R xs ys → (k : ℕ) (x : A) (y : B) → slice_get xs k ≡ Some x → slice_get ys k ≡ Some y → R x y
at_place R [] ys h k x y e f = absurd (cc)
at_place R (a ∷ xs) [] h k x y e f = absurd h
at_place R (a ∷ xs) (b ∷ ys) h zero x y e f = let p : a ≡ x = cc in let q : b ≡ y = cc in subst (λ z. R z y) p (subst (R a) q h.0)
at_place R (a ∷ xs) (b ∷ ys) h (suc k) x y e f = at_place R xs ys h.1 k x y e f

-- a renaming has the variables of the renamed type
variable_there : (types others : ℕ → Typ) (r : AreRenamed types others) (n v : ℕ) → occurs v (types n) ≡ true → occurs (r.forth v) (others n) ≡ true
variable_there types others r n v o = subst (λ t. occurs (r.forth v) t ≡ true) (sym (r.gives n)) (occurs_put (renaming r.forth) v (r.forth v) (types n) o (eqb_same (r.forth v)))

none_so : (b : Bool) → (b ≡ true → ⊥) → b ≡ false
none_so true h = absurd (h refl)
none_so false h = refl

-- where none is weak, it keeps which are weak
none_weak : (types others : ℕ → Typ) (r : AreRenamed types others) (weak weaks : List ℕ) (n : ℕ) → HasNone weak (types n) → HasNone weaks (others n) → KeepsWeak r.forth weak weaks (types n)
none_weak types others r weak weaks n first second v o =
    none_so (is_among (r.forth v) weaks) (second (r.forth v) (variable_there types others r n v o)) ∙ sym (none_so (is_among v weak) (first v o))

-- Two ways in which the nodes of items that are `let`, `;;` and exceptions alone are shown, from one first environment, are one at each place whose node is told with its type, where the renaming of the types keeps which variables are weak.
pub two_shown_renamed : (items : List Tree) (nodes : List Typed) (texts others : List (List ℕ)) → has_values_alone items ≡ true → (a : AreShown items nodes texts) (b : AreShown items nodes others) → a.typing.env ≡ b.typing.env →
    (r : AreRenamed a.typing.choice.type_at b.typing.choice.type_at) (k : ℕ) (n : Typed) (shown other : List ℕ) → slice_get nodes k ≡ Some n → slice_get texts k ≡ Some shown → slice_get others k ≡ Some other →
    IsTold a.typing n → IsTold b.typing n → KeepsWeak r.forth a.weak b.weak (type_at a.typing n) → shown ≡ other
two_shown_renamed items nodes texts others values a b same r k n shown other here one two first second keeps =
    node_shown items values a.typing b.typing same r a.weak b.weak n keeps first second shown other
    (at_place (IsShownAt a.typing a.weak) nodes texts a.each k n shown here one) (at_place (IsShownAt b.typing b.weak) nodes others b.each k n other here two)

-- So they are one where no variable of the node's type is weak in either.
pub two_shown_alike : (items : List Tree) (nodes : List Typed) (texts others : List (List ℕ)) → has_values_alone items ≡ true → (a : AreShown items nodes texts) (b : AreShown items nodes others) → a.typing.env ≡ b.typing.env →
    (k : ℕ) (n : Typed) (shown other : List ℕ) → slice_get nodes k ≡ Some n → slice_get texts k ≡ Some shown → slice_get others k ≡ Some other →
    IsTold a.typing n → IsTold b.typing n → HasNone a.weak (type_at a.typing n) → HasNone b.weak (type_at b.typing n) → shown ≡ other
two_shown_alike items nodes texts others values a b same k n shown other here one two told too first second =
    let r = typings_renamed items values a.typing b.typing same in
    two_shown_renamed items nodes texts others values a b same r k n shown other here one two told too (none_weak a.typing.choice.type_at b.typing.choice.type_at r a.weak b.weak (number_of n.id) first second)
