-- What is typed at a line is no more than it may type.
use Rattle.std.proofs.Common.{◌≡◌, inl, inr, ℕ, zero, suc, ◌+◌, ◌-◌, ◌≤◌, min, List, [], ◌∷◌, ◌++◌, length, take, refl, sym, ◌∙◌, ap, subst, arith, Bool, Result, Ok, Err, OnOk}
use Rattle.std.specs.Prelude.{Option, Some}
use Rattle.std.proofs.lemmas.List.{length-map, length-take-le, take-take}
use Rattle.tree_model.specs.Trees.{Tree}
use Rattle.work_model.specs.Work.{Owed, AreItems, Retyped, RetypedOver}
use Rattle.syntax_tree.specs.Tallies.{Tallies, counted}
use Rattle.syntax_tree.specs.View.{node_view, trees_of}
use Rattle.frame_parser.specs.declared.whole.Parsed.{Parsed}
use Rattle.analysis_api.specs.Typed.{more_typed, GoesOn, LongestFront, SameFront}
use Rattle.analysis_api.specs.declared.Analyser.{Ghosts}
use Rattle.text_reading.specs.Structures.{AreItemsOf}
use Rattle.text_reading.specs.Types.{held, known}
use Rattle.text_reading.specs.declared.types.KeptTypes.{KeptTypes}
use Rattle.text_reading.proofs.Knowing.{items_are_one, known_held}
use Rattle.text_reading.specs.Trials as trials
use Rattle.text_reading.specs.Trials.{Tried, TriesAll}
use Rattle.session.specs.Working.{Carries, Covers, Held, QuerySpends, Types, TypesSome}

-- ---- fronts

front_all : (xs : List Tree) → SameFront xs xs (length xs)
front_all xs = record { left = omega arith; right = omega arith; same = refl }

-- what two lists have in front, and the second and a third, the first and the third have
front_both : (xs ys zs : List Tree) (m n : ℕ) → SameFront xs ys m → SameFront ys zs n → SameFront xs zs (min m n)
front_both xs ys zs m n a b =
    let k = min m n in
    record {
      left = omega (arith, a.left);
      right = omega (arith, b.right);
      same = sym (take-take k m xs (omega arith)) ∙ ap (take k) a.same ∙ take-take k m ys (omega arith) ∙ sym (take-take k n ys (omega arith)) ∙ ap (take k) b.same ∙ take-take k n zs (omega arith);
    }

-- where a list is a front of another, they have it in front
front_held : (items news : List Tree) (k : ℕ) → k ≤ length items → news ≡ take k items → SameFront news items k
front_held items news k le is =
    let all : length news ≡ k = ap length is ∙ length-take-le k items le in
    record { left = omega (arith, all); right = le; same = ap (take k) is ∙ take-take k k items (omega arith) }

-- the items of a text are one list
items_one : (text : List ℕ) (xs ys : List Tree) → AreItems text xs → AreItems text ys → xs ≡ ys
items_one text xs ys (ts, lexed, are) (us, lexes, were) = items_are_one text xs ys (record { tokens = ts; lexed = lexed; are = are }) (record { tokens = us; lexed = lexes; are = were })

-- ---- counts

counted_most : (n : ℕ) → counted n ≤ n + 1
counted_most n = omega arith

typed_most : (k n : ℕ) → more_typed k n ≤ n + k
typed_most zero n = omega arith
typed_most (suc k) n = omega (arith, counted_most (more_typed k n), typed_most k n)

-- ---- one function after the other

-- what was typed after nothing was
types_after : (old mid new : Held) (a b c : Tallies) → mid.text ≡ old.text → mid.holds ≡ old.holds → b.typed ≡ a.typed → Types mid new b c → Types old new a c
types_after old mid new a b c text holds typed (inl (same, none)) = inl (same ∙ holds, none ∙ typed)
types_after old mid new a b c text holds typed (inr (n, are, longest, is)) = inr (
  n,
  subst (λ (t : List ℕ). AreItemsOf t new.holds) text are,
  subst (λ (hs : List Tree). LongestFront hs new.holds n) holds longest,
  is ∙ ap (more_typed (length new.holds - n)) typed,
)

-- a typer that was given the tree of the text
pub types_anew : {A T E : Type 0} {g : Ghosts A} (items : A → List Tree) (r : Result T E) (old new : Held) (before after : KeptTypes A g) (text : List ℕ) (p : Parsed) (a b : Tallies) → text ≡ old.text → held items before ≡ old.holds → held items after ≡ new.holds
    → AreItemsOf text (trees_of p.tree) → OnOk r (known items after ≡ Some (trees_of p.tree))
    → OnOk r ((n : ℕ) × LongestFront (held items before) (trees_of p.tree) n × (b.typed ≡ more_typed (length p.tree.items.items - n) a.typed)) → OnOk r (Types old new a b)
types_anew items (Ok x) old new before after text p a b same were are own there (n, longest, typed) =
    let now : trees_of p.tree ≡ new.holds = sym (known_held items after (trees_of p.tree) there) ∙ are in inr (
      n,
      subst (λ (t : List ℕ). AreItemsOf t new.holds) same (subst (λ (hs : List Tree). AreItemsOf text hs) now own),
      subst (λ (hs : List Tree). LongestFront hs new.holds n) were (subst (λ (hs : List Tree). LongestFront (held items before) hs n) now longest),
      typed ∙ ap (λ k. more_typed (k - n) a.typed) (sym (length-map p.tree.items.items (λ i. node_view i.value)) ∙ ap (λ (hs : List Tree). length hs) now),
    )
types_anew items (Err e) old new before after text p a b same were are own there typed = tt

-- of what was typed after nothing was, and before nothing was, the same is said in part
pub some_none : (old new : Held) (a b c : Tallies) → new.holds ≡ old.holds → b.typed ≡ a.typed → c ≡ b → TypesSome old new a c
some_none old new a b c holds typed same = inl (holds, ap (λ (t : Tallies). t.typed) same ∙ typed)

pub some_after : (old mid new : Held) (a b c : Tallies) → mid.text ≡ old.text → mid.holds ≡ old.holds → b.typed ≡ a.typed → TypesSome mid new b c → TypesSome old new a c
some_after old mid new a b c text holds typed (inl (same, none)) = inl (same ∙ holds, none ∙ typed)
some_after old mid new a b c text holds typed (inr (items, are, goes)) = inr (
  items,
  subst (λ (t : List ℕ). AreItemsOf t items) text are,
  subst (λ (hs : List Tree). GoesOn hs items new.holds a.typed c.typed) holds (subst (λ (n : ℕ). GoesOn mid.holds items new.holds n c.typed) typed goes),
)

pub some_then : (old mid new : Held) (a b c : Tallies) → TypesSome old mid a b → new.holds ≡ mid.holds → c.typed ≡ b.typed → TypesSome old new a c
some_then old mid new a b c (inl (same, none)) holds typed = inl (holds ∙ same, typed ∙ none)
some_then old mid new a b c (inr (items, are, goes)) holds typed = inr (
  items,
  are,
  subst (λ (hs : List Tree). GoesOn old.holds items hs a.typed c.typed) (sym holds) (subst (λ (n : ℕ). GoesOn old.holds items mid.holds a.typed n) (sym typed) goes),
)

pub types_after_ok : {T E : Type 0} (r : Result T E) (old mid new : Held) (a b c : Tallies) → mid.text ≡ old.text → mid.holds ≡ old.holds → b.typed ≡ a.typed → OnOk r (Types mid new b c) → OnOk r (Types old new a c)
types_after_ok (Ok x) old mid new a b c text holds typed types = types_after old mid new a b c text holds typed types
types_after_ok (Err e) old mid new a b c text holds typed types = tt

-- ---- lines

-- at a text that is typed
query_covers : (text : List ℕ) (asked : List (List ℕ)) (olds news : List Tree) (before after start here earlier n : ℕ) → trials.TypesSome text olds news before after → Retyped asked text here → Covers asked olds before (start + earlier) → n ≡ here + earlier
    → Covers (text ∷ asked) news after (start + n)
query_covers text asked olds news before after start here earlier n (inl (holds, none)) step cover is =
    let (m, front, most) = cover.front step.olds step.were in
    let k = min m step.same in
    let both : SameFront olds step.items k = front_both olds step.olds step.items m step.same front (record { left = step.left; right = step.right; same = step.front }) in
    record {
      within = omega (arith, none, cover.within, is);
      front = λ items are. let one : step.items ≡ items = items_one text step.items items step.are are in (
        k,
        subst (λ (xs : List Tree). SameFront news xs k) one (subst (λ (hs : List Tree). SameFront hs step.items k) (sym holds) both),
        omega (arith, ap length one, step.others, most, cover.within, none, is, step.left),
      );
    }
query_covers text asked olds news before after start here earlier n (inr (items, are, goes)) step cover is =
    let (m, front, most) = cover.front step.olds step.were in
    let both : SameFront olds step.items (min m step.same) = front_both olds step.olds step.items m step.same front (record { left = step.left; right = step.right; same = step.front }) in
    let own : AreItems text items = (are.tokens, are.lexed, are.are) in
    let one : step.items ≡ items = items_one text step.items items step.are own in
    let least : min m step.same ≤ goes.same = goes.front.longest (min m step.same) (subst (λ (xs : List Tree). SameFront olds xs (min m step.same)) one both) in
    let typed : after ≤ before + goes.more = omega (arith, goes.typed, typed_most goes.more before) in
    let all : length items ≤ here + step.same = omega (arith, step.others, ap length one) in
    record {
      within = omega (arith, typed, all, least, goes.within, most, is, step.left, front.right);
      front = λ others there. let same : items ≡ others = items_one text items others own there in (
        goes.same + goes.more,
        subst (λ (xs : List Tree). SameFront news xs (goes.same + goes.more)) same (front_held items news (goes.same + goes.more) goes.within goes.holds),
        omega (arith, typed, all, least, goes.within, most, is, step.left, front.right, ap length same),
      );
    }

-- at texts that are tried one after the other
tries_cover : (opens : List ℕ) (asked texts : List (List ℕ)) (s t : Tried) (a b : Tallies) (start : ℕ) → ((n : ℕ) → RetypedOver asked n → Covers asked s.holds a.typed (start + n)) → TriesAll opens texts s t a b
    → (n : ℕ) → RetypedOver (texts ++ asked) n → Covers (texts ++ asked) t.holds b.typed (start + n)
tries_cover opens asked [] s t a b start within (same, idle) n over =
    subst (λ (u : Tried). Covers asked u.holds b.typed (start + n)) (sym same) (subst (λ (c : Tallies). Covers asked s.holds c.typed (start + n)) (sym idle) (within n over))
tries_cover opens asked (text ∷ texts) s t a b start within (mid, between, before, one) n over =
    let (here, earlier, step, rest, is) = over in
    query_covers text (texts ++ asked) mid.holds t.holds between.typed b.typed start here earlier n one.types step (tries_cover opens asked texts s mid a between start within before earlier rest) is

-- a query that tries no text, answered or not
pub types_carry : (w : Owed) (since : Option ℕ) (old new : Held) (b c : Tallies) → w.text ≡ old.text → TypesSome old new b c → Carries w (record { text = w.text; since = since; asked = w.text ∷ w.asked }) old new b c
types_carry w since old new b c text types = λ start within n over.
    let (here, earlier, step, before, is) = over in
    query_covers w.text w.asked old.holds new.holds b.typed c.typed start here earlier n (subst (λ (t : List ℕ). trials.TypesSome t old.holds new.holds b.typed c.typed) (sym text) types) step (within earlier before) is

-- a query that tries texts
pub spends_carry : (opens : List ℕ) (failed : Bool) (texts : List (List ℕ)) (w : Owed) (since : Option ℕ) (old new : Held) (b c : Tallies) → w.text ≡ old.text → QuerySpends opens failed texts old new b c
    → Carries w (record { text = w.text; since = since; asked = texts ++ w.text ∷ w.asked }) old new b c
spends_carry opens failed texts w since old new b c text spends = λ start within n over.
    let asked = w.text ∷ w.asked in
    let tries = spends.tries in
    let own = types_carry w since old spends.mid b spends.between text spends.types start within in
    let first : (k : ℕ) → RetypedOver asked k → Covers asked tries.first.holds spends.between.typed (start + k) = λ k so. subst (λ (hs : List Tree). Covers asked hs spends.between.typed (start + k)) (sym tries.holds) (own k so) in
    subst (λ (hs : List Tree). Covers (texts ++ asked) hs c.typed (start + n)) (sym tries.now_holds) (tries_cover opens asked texts tries.first tries.last spends.between c start first tries.tries n over)

-- a line at which nothing is typed
pub rest_carry : (w : Owed) (old new : Held) (b c : Tallies) → new.holds ≡ old.holds → c.typed ≡ b.typed → Carries w w old new b c
rest_carry w old new b c holds typed = λ start within n over.
    subst (λ k. Covers w.asked new.holds k (start + n)) (sym typed) (subst (λ (hs : List Tree). Covers w.asked hs b.typed (start + n)) (sym holds) (within n over))
