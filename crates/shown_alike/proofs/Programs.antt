-- In a program that the parser gives, each typed node is told with its type, so of each one text is shown.
use Rattle.std.proofs.Common.{◌≡◌, ◌∙◌, ℕ, suc, true, List, [], ◌∷◌, reverse, Some, refl, ap, subst}
use Rattle.std.specs.Prelude.{All, slice_get}
use Rattle.std.specs.List.{AllZip}
use Rattle.std.proofs.lemmas.Option.{slice_get_within, get_or_from_slice_get}
use Rattle.std.proofs.lemmas.List.Elements.{All-nil, All-cons, All-get_or}
use Rattle.std.proofs.lemmas.List.Sorted.{All-permutation, IsPermutation-reverse}
use Rattle.token_model.specs.Kinds.{Tok}
use Rattle.query_model.specs.TypedNodes.{Typed, typed_at}
use Rattle.typing_model.specs.First.{program_items}
use Rattle.typing_model.specs.Plain.{has_values_alone, has_lets_alone}
use Rattle.typed_model.specs.Shown.{IsTypingOf, IsShownAt, AreShown}
use Rattle.typing_laws.proofs.Settled.{values_plain, lets_values}
use Rattle.scope_laws.proofs.TypedNodes.{plain_nodes_are_typed}
use Rattle.shown_alike.specs.Told.{HasNone, type_at, IsTold}
use Rattle.shown_alike.proofs.Shown.{two_shown_alike}
use Rattle.shown_alike.proofs.Weak.{lets_shown_alike}

-- the typed nodes of a program that hold an offset, from the last in preorder to the first, as they are shown
abbrev pub round : ℕ → List Tok → List Typed
round o tokens = reverse (typed_at o (program_items tokens))

-- what is so of each that a list has at some place is so of all
all_of : {A : Type 0} (P : A → Type 0) (xs : List A) → ((k : ℕ) (x : A) → slice_get xs k ≡ Some x → P x) → All P xs
all_of P [] h = All-nil P
all_of P (x ∷ xs) h = All-cons P x xs (h 0 x refl) (all_of P xs (λ k. h (suc k)))

-- each of them is told with its type
told_at : (tokens : List Tok) → has_values_alone (program_items tokens) ≡ true → (a : IsTypingOf (program_items tokens)) (o k : ℕ) (n : Typed) → slice_get (typed_at o (program_items tokens)) k ≡ Some n → IsTold a n
told_at tokens values a o k n here =
    let (names, told) = plain_nodes_are_typed a.env tokens a.kept a.choice (values_plain (program_items tokens) values) o k n here in
    record { names = names; told = told }

pub told_round : (tokens : List Tok) → has_values_alone (program_items tokens) ≡ true → (a : IsTypingOf (program_items tokens)) (o k : ℕ) (n : Typed) → slice_get (round o tokens) k ≡ Some n → IsTold a n
told_round tokens values a o k n here =
    let all : All (IsTold a) (round o tokens) =
    All-permutation (IsTold a) (typed_at o (program_items tokens)) (round o tokens) (IsPermutation-reverse (typed_at o (program_items tokens))) (all_of (IsTold a) (typed_at o (program_items tokens)) (told_at tokens values a o)) in
    subst (IsTold a) (get_or_from_slice_get (round o tokens) k n n here) (All-get_or (IsTold a) (round o tokens) k n (slice_get_within (round o tokens) k n here) all)

-- Two ways in which the typed nodes of such a program that hold an offset are shown are one, where no variable of the node's type is weak in either.
pub programs_shown_alike : (tokens : List Tok) (o : ℕ) (texts others : List (List ℕ)) → has_values_alone (program_items tokens) ≡ true → (a : AreShown (program_items tokens) (round o tokens) texts) (b : AreShown (program_items tokens) (round o tokens) others) →
    a.typing.env ≡ b.typing.env → (k : ℕ) (n : Typed) (shown other : List ℕ) → slice_get (round o tokens) k ≡ Some n → slice_get texts k ≡ Some shown → slice_get others k ≡ Some other → HasNone a.weak (type_at a.typing n) → HasNone b.weak (type_at b.typing n) → shown ≡ other
programs_shown_alike tokens o texts others values a b same k n shown other here one two first second =
    two_shown_alike (program_items tokens) (round o tokens) texts others values a b same k n shown other here one two (told_round tokens values a.typing o k n here) (told_round tokens values b.typing o k n here) first second

-- Of a program of `let` and `;;` they are one, weak variables included.
pub program_lets_alike : (tokens : List Tok) (o : ℕ) (texts others : List (List ℕ)) → has_lets_alone (program_items tokens) ≡ true → (a : AreShown (program_items tokens) (round o tokens) texts) (b : AreShown (program_items tokens) (round o tokens) others) →
    a.typing.env ≡ b.typing.env → (k : ℕ) (n : Typed) (shown other : List ℕ) → slice_get (round o tokens) k ≡ Some n → slice_get texts k ≡ Some shown → slice_get others k ≡ Some other → shown ≡ other
program_lets_alike tokens o texts others lets a b same k n shown other here one two =
    let values = lets_values (program_items tokens) lets in
    lets_shown_alike (program_items tokens) (round o tokens) texts others lets a b same k n shown other here one two (told_round tokens values a.typing o k n here) (told_round tokens values b.typing o k n here)

-- two lists as long as a third are one, where their elements at each place of the third are
lists_one : {N A : Type 0} (R S : N → A → Type 0) (ns : List N) (xs ys : List A) → AllZip R ns xs → AllZip S ns ys → ((k : ℕ) (n : N) (x y : A) → slice_get ns k ≡ Some n → slice_get xs k ≡ Some x → slice_get ys k ≡ Some y → x ≡ y) → xs ≡ ys
lists_one R S [] [] [] h g each = refl
lists_one R S [] [] (y ∷ ys) h g each = absurd g
lists_one R S [] (x ∷ xs) ys h g each = absurd h
lists_one R S (n ∷ ns) [] ys h g each = absurd h
lists_one R S (n ∷ ns) (x ∷ xs) [] h g each = absurd g
lists_one R S (n ∷ ns) (x ∷ xs) (y ∷ ys) h g each =
    let first : x ≡ y = each 0 n x y refl refl refl in
    let rest : xs ≡ ys = lists_one R S ns xs ys h.1 g.1 (λ k. each (suc k)) in
    ap (λ z. z ∷ xs) first ∙ ap (λ zs. y ∷ zs) rest

-- So the whole lists are one.
pub program_lists_one : (tokens : List Tok) (o : ℕ) (texts others : List (List ℕ)) → has_lets_alone (program_items tokens) ≡ true → (a : AreShown (program_items tokens) (round o tokens) texts) (b : AreShown (program_items tokens) (round o tokens) others) →
    a.typing.env ≡ b.typing.env → texts ≡ others
program_lists_one tokens o texts others lets a b same = lists_one (IsShownAt a.typing a.weak) (IsShownAt b.typing b.weak) (round o tokens) texts others a.each b.each (program_lets_alike tokens o texts others lets a b same)
