-- Which place a trial tells.
use Rattle.std.proofs.Common.{◌≡◌, ⊎_elim, ℕ, ◌+◌, ◌<◌, ◌≤◌, leb, List, [], ◌∷◌, ◌++◌, length, map, refl, sym, ◌∙◌, ap, subst, arith, cond, drop, get_or, Bool, true, false, Result, Ok, Err}
use Rattle.std.specs.Prelude.{Option, Some, None, ◌&&◌, ◌||◌, nat_eq}
use Rattle.std.proofs.lemmas.Cmp.{nat_eq_equiv, nat_list_eq_equiv}
use Rattle.std.specs.Str.{bytes_eq}
use Rattle.std.specs.Option.{option_to_list}
use Rattle.std.specs.List.{Contains, list_any}
use Rattle.std.specs.HashSet.{HashSet, contains, Updates}
use Rattle.std.specs.Result.{OnOk, is_err}
use Rattle.std.proofs.Math.Logic.{∥∥₁_map}
use Rattle.std.proofs.lemmas.List.{drop_more}
use Rattle.std.proofs.lemmas.Bool.{leb-true, leb-false}
use Rattle.std.proofs.lemmas.List.Elements.{All-head, All-tail, All-cons, All-nil, Contains-append_left, Contains-append_right, Contains-append_cases}
use Rattle.text_model.specs.Edits.{apply}
use Rattle.token_model.specs.Tokens.{Lex}
use Rattle.tree_model.specs.Trees.{Place}
use Rattle.query_model.specs.Faults.{by_typer}
use Rattle.service_model.specs.Structure.{TyperFaults}
use Rattle.service_model.specs.Trials.{FirstAdded, IsLeast, Mark, is_among, mark_of, marks, moved, moved_mark, new_starts, same_mark}
use Rattle.env_table.specs.declared.faults.Fault as typer
use Rattle.frame_steps.specs.declared.stack.SyntaxFault.{SyntaxFault}
use Rattle.frame_parser.specs.declared.whole.Parsed.{Parsed}
use Rattle.text_queries.specs.Faults.{fault_of, typer_fault_of}
use Rattle.text_reading.specs.Structures.{IsParsedAs}
use Rattle.text_changes.specs.Trials.{IsParserOf, Knows, lesser, mark_in, same_code}
use Rattle.text_changes.specs.declared.trials.Mark as code

-- what stands first alone is the least
pub least_self : (f : Option ℕ) → IsLeast f (option_to_list f ++ [])
least_self None = refl
least_self (Some n) = ((0, omega arith, refl), All-cons (λ m. n ≤ m) n [] (omega arith) (All-nil (λ m. n ≤ m)))

wider : (b p : ℕ) (ns : List ℕ) (n : ℕ) → Contains (b ∷ ns) n → Contains (b ∷ p ∷ ns) n
wider b p ns n has =
    ⊎_elim (λ h. Contains-append_left (b ∷ []) (p ∷ ns) n h) (λ h. Contains-append_right (b ∷ p ∷ []) ns n h) (Contains-append_cases (b ∷ []) ns n has)

-- the lesser of two numbers stands for both
least_pick : (b p : ℕ) (ns : List ℕ) (r : Option ℕ) (t : Bool) → leb b p ≡ t → IsLeast r (cond t b p ∷ ns) → IsLeast r (b ∷ p ∷ ns)
least_pick b p ns None t is least = (let no : ⊥ = cc in absurd no)
least_pick b p ns (Some n) true is least =
    let first : n ≤ b = All-head (λ m. n ≤ m) b ns least.1 in
    let le : b ≤ p = leb-true b p is in
    (wider b p ns n least.0, All-cons (λ m. n ≤ m) b (p ∷ ns) first (All-cons (λ m. n ≤ m) p ns (omega arith) (All-tail (λ m. n ≤ m) b ns least.1)))
least_pick b p ns (Some n) false is least =
    let first : n ≤ p = All-head (λ m. n ≤ m) p ns least.1 in
    let lt : p < b = leb-false b p is in
    (Contains-append_right (b ∷ []) (p ∷ ns) n least.0, All-cons (λ m. n ≤ m) b (p ∷ ns) (omega arith) least.1)

-- the lesser of a place and one in front of it, if there is one, stands for both
least_lesser : (f : Option ℕ) (p : ℕ) (ns : List ℕ) (r : Option ℕ) → IsLeast r (lesser f p ∷ ns) → IsLeast r (option_to_list f ++ p ∷ ns)
least_lesser None p ns r least = least
least_lesser (Some b) p ns r least = least_pick b p ns r (leb b p) refl least

starts_first : (known : List Mark) (m : Mark) (ms : List Mark) (t : Bool) → is_among known m ≡ t → new_starts known (m ∷ ms) ≡ cond t (new_starts known ms) (m.start ∷ new_starts known ms)
starts_first known m ms true is = rw is refl
starts_first known m ms false is = rw is refl

-- a known mark changes nothing
pub passed : (known : List Mark) (m : Mark) (ms : List Mark) (f : Option ℕ) (r : Option ℕ) → is_among known m ≡ true
    → IsLeast r (option_to_list f ++ new_starts known ms) → IsLeast r (option_to_list f ++ new_starts known (m ∷ ms))
passed known m ms f r is least = subst (λ ns. IsLeast r (option_to_list f ++ ns)) (sym (starts_first known m ms true is)) least

-- at a new mark the lesser place goes on
pub taken : (known : List Mark) (m : Mark) (ms : List Mark) (f : Option ℕ) (r : Option ℕ) → is_among known m ≡ false
    → IsLeast r (lesser f m.start ∷ new_starts known ms) → IsLeast r (option_to_list f ++ new_starts known (m ∷ ms))
taken known m ms f r is least =
    subst (λ ns. IsLeast r (option_to_list f ++ ns)) (sym (starts_first known m ms false is)) (least_lesser f m.start (new_starts known ms) r least)

-- a mark is among the marks that a trial keeps
any_in : (eq : code.Mark → code.Mark → Bool) → ((a b : code.Mark) → eq a b ≡ same_mark (mark_in a) (mark_in b)) → (ks : List code.Mark) (m : code.Mark) → is_among (map mark_in ks) (mark_in m) ≡ list_any (eq m) ks
any_in eq same [] m = refl
any_in eq same (k ∷ ks) m = rw (same m k, any_in eq same ks m) refl

-- marks of a text's faults are known where they are kept
pub known_marks : (eq : code.Mark → code.Mark → Bool) → ((a b : code.Mark) → eq a b ≡ same_mark (mark_in a) (mark_in b)) → (text : List ℕ) (parsed : List SyntaxFault) (typed : List typer.Fault) (made keys : List code.Mark)
    → IsParserOf text parsed → TyperFaults text (map typer_fault_of typed) → map mark_in made ≡ map mark_of (map fault_of parsed ++ map by_typer (map typer_fault_of typed))
    → ((q : code.Mark) → list_any (eq q) keys ≡ list_any (eq q) made) → Knows text keys
known_marks eq same text parsed typed made keys (tokens, lexed, faults) holds are has =
    let all : map mark_in made ≡ marks tokens (map typer_fault_of typed) = are ∙ ap (λ fs. map mark_of (fs ++ map by_typer (map typer_fault_of typed))) faults in
    (tokens, map typer_fault_of typed, lexed, holds, λ m. any_in eq same keys m ∙ has m ∙ sym (any_in eq same made m) ∙ ap (λ ms. is_among ms (mark_in m)) all)

-- what is told of marks from one on
from_mark : (known : List Mark) (move : Mark → Mark) (xs : List code.Mark) (i : ℕ) (d : code.Mark) (there : Mark) (f : Option ℕ) (r : Option ℕ) → i < length xs → there ≡ move (mark_in (get_or xs i d))
    → IsLeast r (option_to_list f ++ new_starts known (there ∷ map move (map mark_in (drop (i + 1) xs)))) → IsLeast r (option_to_list f ++ new_starts known (map move (map mark_in (drop i xs))))
from_mark known move xs i d there f r inside is least =
    subst (λ ms. IsLeast r (option_to_list f ++ new_starts known (map move (map mark_in ms)))) (sym (drop_more xs i d inside))
    (subst (λ m. IsLeast r (option_to_list f ++ new_starts known (m ∷ map move (map mark_in (drop (i + 1) xs))))) is least)

-- a known mark is passed
pub next_passed : (eq : code.Mark → code.Mark → Bool) → ((a b : code.Mark) → eq a b ≡ same_mark (mark_in a) (mark_in b)) → (keys : List code.Mark) (move : Mark → Mark) (xs : List code.Mark) (i : ℕ) (d there : code.Mark) (f g : Option ℕ) (r : Option ℕ)
    → i < length xs → mark_in there ≡ move (mark_in (get_or xs i d)) → list_any (eq there) keys ≡ true → g ≡ f
    → IsLeast r (option_to_list g ++ new_starts (map mark_in keys) (map move (map mark_in (drop (i + 1) xs)))) → IsLeast r (option_to_list f ++ new_starts (map mark_in keys) (map move (map mark_in (drop i xs))))
next_passed eq same keys move xs i d there f g r inside is known stays least =
    let rest = map move (map mark_in (drop (i + 1) xs)) in
    from_mark (map mark_in keys) move xs i d (mark_in there) f r inside is
    (passed (map mark_in keys) (mark_in there) rest f r (any_in eq same keys there ∙ known) (subst (λ h. IsLeast r (option_to_list h ++ new_starts (map mark_in keys) rest)) stays least))

-- a new mark is taken
pub next_taken : (eq : code.Mark → code.Mark → Bool) → ((a b : code.Mark) → eq a b ≡ same_mark (mark_in a) (mark_in b)) → (keys : List code.Mark) (move : Mark → Mark) (xs : List code.Mark) (i : ℕ) (d there : code.Mark) (f g : Option ℕ) (r : Option ℕ)
    → i < length xs → mark_in there ≡ move (mark_in (get_or xs i d)) → list_any (eq there) keys ≡ false → g ≡ Some (lesser f there.start)
    → IsLeast r (option_to_list g ++ new_starts (map mark_in keys) (map move (map mark_in (drop (i + 1) xs)))) → IsLeast r (option_to_list f ++ new_starts (map mark_in keys) (map move (map mark_in (drop i xs))))
next_taken eq same keys move xs i d there f g r inside is new goes least =
    let rest = map move (map mark_in (drop (i + 1) xs)) in
    from_mark (map mark_in keys) move xs i d (mark_in there) f r inside is
    (taken (map mark_in keys) (mark_in there) rest f r (any_in eq same keys there ∙ new) (subst (λ h. IsLeast r (option_to_list h ++ new_starts (map mark_in keys) rest)) goes least))

abbrev moved_code : Place → ℕ → code.Mark → code.Mark
moved_code x count m = record { start = moved x count m.start; end = moved x count m.end; kind = m.kind }

-- of lists among which the same marks are the same starts are new
same_starts : (known others : List Mark) (x : Place) (count : ℕ) (ms : List code.Mark) → ((m : code.Mark) → is_among known (mark_in m) ≡ is_among others (mark_in m))
    → new_starts known (map (moved_mark x count) (map mark_in ms)) ≡ new_starts others (map (moved_mark x count) (map mark_in ms))
same_starts known others x count [] same = refl
same_starts known others x count (m ∷ ms) same =
    let there = moved_mark x count (mark_in m) in
    let rest = map (moved_mark x count) (map mark_in ms) in
    starts_first known there rest (is_among known there) refl
    ∙ ap (λ t. cond t (new_starts known rest) (there.start ∷ new_starts known rest)) (same (moved_code x count m))
    ∙ ap (λ ns. cond (is_among others there) ns (there.start ∷ ns)) (same_starts known others x count ms same)
    ∙ sym (starts_first others there rest (is_among others there) refl)

-- the first new mark of a changed text that is parsed and typed
pub first_added : (text bytes put : List ℕ) (x : Place) (keys made ms : List code.Mark) (p : Parsed) (pf : List SyntaxFault) (tf : List typer.Fault) (first : Option ℕ) → ∥ Knows text keys ∥₁
    → IsParsedAs bytes p → TyperFaults bytes (map typer_fault_of tf) → bytes ≡ apply text x.start x.end put → pf ≡ p.faults.items
    → map mark_in made ≡ map mark_of (map fault_of pf ++ map by_typer (map typer_fault_of tf)) → ms ≡ made
    → IsLeast first (new_starts (map mark_in keys) (map (moved_mark x (length put)) (map mark_in ms))) → FirstAdded text x put first
first_added text bytes put x keys made ms p pf tf first knows parsed typed changed faults are same least =
    let found = map typer_fault_of tf in
    let move = map (moved_mark x (length put)) in
    let all : map mark_in ms ≡ marks parsed.tokens found =
    ap (map mark_in) same ∙ are ∙ ap (λ fs. map mark_of (fs ++ map by_typer found)) (ap (map fault_of) faults ∙ parsed.faults) in
    let lexed = subst (λ t. Lex t parsed.tokens) changed parsed.lexed in
    let holds = subst (λ (t : List ℕ). TyperFaults t found) changed typed in
    ∥∥₁_map knows (λ k. (
      k.0,
      parsed.tokens,
      k.1,
      found,
      k.2,
      lexed,
      k.3,
      holds,
      subst (λ ns. IsLeast first ns) (same_starts (map mark_in keys) (marks k.0 k.1) x (length put) ms k.4 ∙ ap (λ m. new_starts (marks k.0 k.1) (move m)) all) least,
    ))

same_back : (a b : code.Mark) → same_code a b ≡ same_code b a
same_back a b =
    ap (λ t. t && (nat_eq a.end b.end && bytes_eq a.kind.now b.kind.now)) (nat_eq_equiv.symm a.start b.start)
    ∙ ap (λ t. nat_eq b.start a.start && (t && bytes_eq a.kind.now b.kind.now)) (nat_eq_equiv.symm a.end b.end)
    ∙ ap (λ t. nat_eq b.start a.start && (nat_eq b.end a.end && t)) (nat_list_eq_equiv.symm a.kind.now b.kind.now)

either : (t o r : Bool) → (cond t true o || r) ≡ (o || (t || r))
either true true r = refl
either true false r = refl
either false true r = refl
either false false r = refl

-- what holds on success holds where there is no error
on_ok : {A E : Type 0} {P : Type 0} (r : Result A E) → OnOk r P → is_err r ≡ false → P
on_ok (Ok x) holds is = holds
on_ok (Err e) holds is = let never : ⊥ = cc in absurd never

-- a mark put in a set is one less that is still to be put there
pub inserted : {E : Type 0} {S : Type 0} (old new : HashSet code.Mark S) (xs : List code.Mark) (i : ℕ) (d : code.Mark) (r : Result Bool E) → i < length xs
    → OnOk r (Updates same_code old new (get_or xs i d) true) → is_err r ≡ false
    → ((m : code.Mark) → (contains same_code old m || list_any (same_code m) (drop i xs)) ≡ list_any (same_code m) xs)
    → (m : code.Mark) → (contains same_code new m || list_any (same_code m) (drop (i + 1) xs)) ≡ list_any (same_code m) xs
inserted old new xs i d r inside put is all m =
    let k = get_or xs i d in
    let rest = list_any (same_code m) (drop (i + 1) xs) in
    let had = contains same_code old m in
    ap (λ t. t || rest) ((on_ok r put is).0 m)
    ∙ either (same_code k m) had rest
    ∙ ap (λ t. had || (t || rest)) (same_back k m)
    ∙ ap (λ ms. had || list_any (same_code m) ms) (sym (drop_more xs i d inside))
    ∙ all m
