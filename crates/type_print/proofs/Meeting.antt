-- The variables that were met have their names by their order, at each move of the walk.
use Rattle.std.proofs.Common.{◌≡◌, inl, inr, ℕ, zero, suc, ◌+◌, ◌<◌, ◌≤◌, Bool, true, false, cond, eqb, List, [], ◌∷◌, ◌++◌, map, length, drop, get_or, Option, Some, refl, sym, ◌∙◌, ap, subst, arith, append_assoc, append-nil}
use Rattle.std.specs.Prelude.{if◌then◌else◌, ◌||◌, All}
use Rattle.std.proofs.lemmas.Bool.{eq-eqb, ne_eqb}
use Rattle.std.proofs.lemmas.Bool.Decides.{eqb_tells}
use Rattle.std.proofs.lemmas.List.{drop_more}
use Rattle.type_model.specs.Types.{Typ, types_of}
use Rattle.type_nodes.specs.Nodes.{Node, Var, Rigid, Link, Arrow, Tuple, Con, parts, IsSound}
use Rattle.type_nodes.specs.Links.{root, reading}
use Rattle.type_terms.specs.declared.types.NodeRef.{NodeRef}
use Rattle.type_nodes.specs.Views.{numbers}
use Rattle.type_nodes.proofs.Lists.{drop_all}
use Rattle.type_print_model.specs.Variables.{variables_of, variables_in, is_among}
use Rattle.type_print.specs.declared.variables.VariableName.{VariableName}
use Rattle.type_print.specs.Shown.{shown, shown_from, weight, weights}
use Rattle.type_print.specs.Meeting.{roots_of, is_weak, has_letter, name_given, count_in, AreAmong, Met, AreNamed, next_name, Counts, Adds, Marks, Move, enters, leaves, entries, IsMove, AreMoves, moves_weight, to_come, Closes, is_variable, Goes, skips, meets, opens, closes}
use Rattle.type_print.proofs.Ranks.{tells, among_last, all_left, all_right, rank_new, count_again, count_new, name_left}
use Rattle.type_print.proofs.Shown.{shown_reading, shown_root}
use Rattle.type_print.proofs.Weights.{some_weight, parts_inside, no_link}

-- a variable that stands once more changes nothing
again : (nodes : List Node) (weak all : List ℕ) (v : ℕ) (m : Met) → AreNamed nodes weak all m → is_among v all ≡ true → AreNamed nodes weak (all ++ v ∷ []) m
again nodes weak all v m named h = record {
  marked = named.marked;
  letters = named.letters ∙ sym (count_again (has_letter weak) [] v all h);
  weaks = named.weaks ∙ sym (count_again (is_weak weak) [] v all h);
  named = λ u e. let old = was u e in named.named u old ∙ ap Some (sym (name_left weak all (v ∷ []) u old));
  met = λ u e. named.met u (was u e);
  done = λ n e. all_left all (v ∷ []) (variables_of (shown nodes n)) (named.done n e);
} where
  was : (u : ℕ) → is_among u (all ++ v ∷ []) ≡ true → is_among u all ≡ true
  was u e = elim (among_last u v all e) [ inl old ↦ old | inr same ↦ subst (λ w. is_among w all ≡ true) (sym same) h ]

-- nor do several
pub all_again : (nodes : List Node) (weak all vs : List ℕ) (m : Met) → AreNamed nodes weak all m → AreAmong all vs → AreNamed nodes weak (all ++ vs) m
all_again nodes weak all [] m named h = subst (λ ws. AreNamed nodes weak ws m) (sym (append-nil all)) named
all_again nodes weak all (v ∷ vs) m named h =
    subst (λ ws. AreNamed nodes weak ws m) (append_assoc all (v ∷ []) vs) (all_again nodes weak (all ++ v ∷ []) vs m (again nodes weak all v m named h.0) (all_left all (v ∷ []) vs h.1))

-- a variable that is not weak has the next letter
letters_next : (b : Bool) (n : ℕ) → (if b then n else n + 1) ≡ (if (if b then false else true) then suc n else n)
letters_next true n = refl
letters_next false n = omega arith

-- a weak one has the next number
weaks_next : (b : Bool) (n : ℕ) → (if b then n + 1 else n) ≡ (if b then suc n else n)
weaks_next true n = omega arith
weaks_next false n = refl

-- a choice between what holds holds
cond_right : (b c : Bool) → c ≡ true → cond b true c ≡ true
cond_right true c h = refl
cond_right false c h = h

-- the name that a new variable is given is that of its place
new_name : (nodes : List Node) (weak all : List ℕ) (r : ℕ) (m : Met) → AreNamed nodes weak all m → is_among r all ≡ false → next_name m r ≡ name_given weak (all ++ r ∷ []) r
new_name nodes weak all r m named new =
    let i = rank_new (is_weak weak) [] r all new in
    let j = rank_new (has_letter weak) [] r all new in
    rw (i, j, named.marked r, named.weaks, named.letters) refl

-- a variable is met for the first time
named_new : (nodes : List Node) (weak all : List ℕ) (r : ℕ) (old new : Met) → AreNamed nodes weak all old → old.done r ≡ false → variables_of (shown nodes r) ≡ r ∷ [] → Adds r old new → AreNamed nodes weak (all ++ r ∷ []) new
named_new nodes weak all r old new named lacks is adds = record {
  marked = λ v. ap (λ f. f v) adds.weak ∙ named.marked v;
  letters = adds.letters ∙ (ap (λ n. if old.weak r then n else n + 1) named.letters ∙ (ap (λ b. if b then count_in (has_letter weak) [] all else count_in (has_letter weak) [] all + 1) (named.marked r)
      ∙ (letters_next (is_among r weak) (count_in (has_letter weak) [] all) ∙ sym (count_new (has_letter weak) [] r all refl fresh))));
  weaks = adds.weaks ∙ (ap (λ n. if old.weak r then n + 1 else n) named.weaks ∙ (ap (λ b. if b then count_in (is_weak weak) [] all + 1 else count_in (is_weak weak) [] all) (named.marked r)
      ∙ (weaks_next (is_among r weak) (count_in (is_weak weak) [] all) ∙ sym (count_new (is_weak weak) [] r all refl fresh))));
  named = λ v e. elim (eqb_tells r v) [
    | inl (t, same) ↦ adds.name v ∙ (ap (λ b. cond b (Some (next_name old r)) (old.name v)) t ∙ ap Some (new_name nodes weak all r old named fresh ∙ ap (name_given weak (all ++ r ∷ [])) same))
    | inr (t, other) ↦ elim (among_last v r all e) [
      | inl was ↦ adds.name v ∙ (ap (λ b. cond b (Some (next_name old r)) (old.name v)) t ∙ (named.named v was ∙ ap Some (sym (name_left weak all (r ∷ []) v was))))
      | inr same ↦ absurd (other (sym same))
    ]
  ];
  met = λ v e. elim (among_last v r all e) [
    | inl was ↦ adds.done v ∙ cond_right (eqb r v) (old.done v) (named.met v was)
    | inr same ↦ adds.done v ∙ ap (λ b. cond b true (old.done v)) (eq-eqb r v (sym same))
  ];
  done = λ n e. elim (eqb_tells r n) [
    | inl (t, same) ↦ subst (λ k. AreAmong (all ++ r ∷ []) (variables_of (shown nodes k))) same (subst (AreAmong (all ++ r ∷ [])) (sym is) (all_right all (r ∷ [])))
    | inr (t, other) ↦ all_left all (r ∷ []) (variables_of (shown nodes n)) (named.done n (sym (adds.done n ∙ ap (λ b. cond b true (old.done n)) t) ∙ e))
  ];
} where
  fresh : is_among r all ≡ false
  fresh = elim (tells (is_among r all)) [ inl was ↦ let d = named.met r was in absurd (cc) | inr new ↦ new ]

-- all variables of a root were met
named_marked : (nodes : List Node) (weak all : List ℕ) (r : ℕ) (old new : Met) → AreNamed nodes weak all old → AreAmong all (variables_of (shown nodes r)) → Marks r old new → AreNamed nodes weak all new
named_marked nodes weak all r old new named h marks = record {
  marked = λ v. ap (λ f. f v) marks.weak ∙ named.marked v;
  letters = marks.letters ∙ named.letters;
  weaks = marks.weaks ∙ named.weaks;
  named = λ v e. ap (λ f. f v) marks.name ∙ named.named v e;
  met = λ v e. marks.done v ∙ cond_right (eqb r v) (old.done v) (named.met v e);
  done = λ n e. elim (eqb_tells r n) [
    | inl (t, same) ↦ subst (λ k. AreAmong all (variables_of (shown nodes k))) same h
    | inr (t, other) ↦ named.done n (sym (marks.done n ∙ ap (λ b. cond b true (old.done n)) t) ∙ e)
  ];
}

-- the variables of a node that is none are those of its parts
parts_variables : (nodes : List Node) (r : ℕ) (c : Node) (t : Typ) → t ≡ shown_from (shown nodes) r (Some c) → is_variable c ≡ false → ((m : ℕ) → c ≡ Link m → ⊥) → variables_of t ≡ variables_in (types_of (map (shown nodes) (parts c)))
parts_variables nodes r (Var l o) t e v h = absurd (cc)
parts_variables nodes r Rigid t e v h = absurd (cc)
parts_variables nodes r (Link m) t e v h = absurd (h m refl)
parts_variables nodes r (Arrow a b) t e v h = rw e (ap (λ vs. variables_of (shown nodes a) ++ vs) (sym (append-nil (variables_of (shown nodes b)))))
parts_variables nodes r (Tuple ms) t e v h = rw e refl
parts_variables nodes r (Con p name ms) t e v h = rw e refl

-- a variable's node has itself
own_variable : (nodes : List Node) (r : ℕ) (c : Node) (t : Typ) → t ≡ shown_from (shown nodes) r (Some c) → is_variable c ≡ true → variables_of t ≡ r ∷ []
own_variable nodes r (Var l o) t e v = rw e refl
own_variable nodes r Rigid t e v = rw e refl
own_variable nodes r (Link m) t e v = absurd (cc)
own_variable nodes r (Arrow a b) t e v = absurd (cc)
own_variable nodes r (Tuple ms) t e v = absurd (cc)
own_variable nodes r (Con p name ms) t e v = absurd (cc)

-- to come are the variables of nodes, and then those of what follows
entries_come : (nodes : List Node) (ns : List ℕ) (ms : List Move) → to_come nodes (entries ns ++ ms) ≡ variables_in (types_of (map (shown nodes) ns)) ++ to_come nodes ms
entries_come nodes [] ms = refl
entries_come nodes (n ∷ ns) ms = ap (λ vs. variables_of (shown nodes n) ++ vs) (entries_come nodes ns ms) ∙ sym (append_assoc (variables_of (shown nodes n)) (variables_in (types_of (map (shown nodes) ns))) (to_come nodes ms))

-- what closes behind the variables of nodes closes behind the nodes
entries_close : (nodes : List Node) (all ns : List ℕ) (ms : List Move) → Closes nodes (all ++ variables_in (types_of (map (shown nodes) ns))) ms → Closes nodes all (entries ns ++ ms)
entries_close nodes all [] ms h = subst (λ vs. Closes nodes vs ms) (append-nil all) h
entries_close nodes all (n ∷ ns) ms h =
    entries_close nodes (all ++ variables_of (shown nodes n)) ns ms (subst (λ vs. Closes nodes vs ms) (sym (append_assoc all (variables_of (shown nodes n)) (variables_in (types_of (map (shown nodes) ns))))) h)

-- where a walk stands: what it met and what is to come are the whole
pub record Going (nodes : List Node) (weak whole : List ℕ) (m : Met) (left : List Move) : Type 0 where
  pub so_far : List ℕ
  pub named : AreNamed nodes weak so_far m
  pub closing : Closes nodes so_far left
  pub rest : so_far ++ to_come nodes left ≡ whole

-- each move keeps that
pub going_on : (nodes : List Node) → IsSound nodes → (weak whole : List ℕ) (move : Move) (old new : Met) (before after : List Move) → IsMove nodes move → Goes nodes before after old new move → Going nodes weak whole old (move ∷ before) → Going nodes weak whole new after
going_on nodes sound weak whole (enters n) old new before after h (skips done same left) going =
    let vs = variables_of (shown nodes n) in
    let among : AreAmong going.so_far vs = subst (λ t. AreAmong going.so_far (variables_of t)) (shown_root nodes sound n (root nodes n) h refl) (going.named.done (root nodes n) done) in
    rw (same, left) (record {
      so_far = going.so_far ++ vs;
      named = all_again nodes weak going.so_far vs old going.named among;
      closing = going.closing;
      rest = append_assoc going.so_far vs (to_come nodes before) ∙ going.rest;
    })
going_on nodes sound weak whole (enters n) old new before after h (meets {c = c} read is lacks adds left) going =
    let own : variables_of (shown nodes n) ≡ root nodes n ∷ [] = own_variable nodes (root nodes n) c (shown nodes n) (shown_reading nodes sound n c h read) is in
    let same : shown nodes (root nodes n) ≡ shown nodes n = shown_root nodes sound n (root nodes n) h refl in
    rw left (record {
      so_far = going.so_far ++ root nodes n ∷ [];
      named = named_new nodes weak going.so_far (root nodes n) old new going.named lacks (ap variables_of same ∙ own) adds;
      closing = subst (λ vs. Closes nodes (going.so_far ++ vs) before) own going.closing;
      rest = append_assoc going.so_far (root nodes n ∷ []) (to_come nodes before) ∙ (ap (λ vs. going.so_far ++ (vs ++ to_come nodes before)) (sym own) ∙ going.rest);
    })
going_on nodes sound weak whole (enters n) old new before after h (opens {c = c} read is same left) going =
    let vs = variables_in (types_of (map (shown nodes) (parts c))) in
    let of : variables_of (shown nodes n) ≡ vs = parts_variables nodes (root nodes n) c (shown nodes n) (shown_reading nodes sound n c h read) is (λ m l. no_link nodes sound n m h (read ∙ ap Some l)) in
    let back : variables_of (shown nodes (root nodes n)) ≡ vs = ap variables_of (shown_root nodes sound n (root nodes n) h refl) ∙ of in
    rw (same, left) (record {
      so_far = going.so_far;
      named = going.named;
      closing = entries_close nodes going.so_far (parts c) (leaves (root nodes n) ∷ before)
          (subst (AreAmong (going.so_far ++ vs)) (sym back) (all_right going.so_far vs), subst (λ us. Closes nodes (going.so_far ++ us) before) of going.closing);
      rest = ap (λ us. going.so_far ++ us) (entries_come nodes (parts c) (leaves (root nodes n) ∷ before)) ∙ (ap (λ us. going.so_far ++ (us ++ to_come nodes before)) (sym of) ∙ going.rest);
    })
going_on nodes sound weak whole (leaves n) old new before after h (closes marks left) going =
    rw left (record {
      so_far = going.so_far;
      named = named_marked nodes weak going.so_far n old new going.named going.closing.0 marks;
      closing = going.closing.1;
      rest = going.rest;
    })

-- at the end all was met
pub gone : (nodes : List Node) (weak whole : List ℕ) (m : Met) (left : List Move) → left ≡ [] → Going nodes weak whole m left → AreNamed nodes weak whole m
gone nodes weak whole m left e going =
    let end : going.so_far ++ to_come nodes [] ≡ whole = subst (λ ms. going.so_far ++ to_come nodes ms ≡ whole) e going.rest in
    subst (λ vs. AreNamed nodes weak vs m) (sym (append-nil going.so_far) ∙ end) going.named

-- what is left to do for nodes is at most what is for their types
entries_weight : (nodes : List Node) (ns : List ℕ) (ms : List Move) → moves_weight nodes (entries ns ++ ms) ≤ weights (types_of (map (shown nodes) ns)) + moves_weight nodes ms
entries_weight nodes [] ms = omega arith
entries_weight nodes (n ∷ ns) ms = let h = entries_weight nodes ns ms in omega arith

-- the parts of a node leave less to do than the node, and a way back besides
parts_less : (nodes : List Node) (r : ℕ) (c : Node) (ms : List Move) (t : Typ) → t ≡ shown_from (shown nodes) r (Some c) → is_variable c ≡ false → ((m : ℕ) → c ≡ Link m → ⊥) → moves_weight nodes (entries (parts c) ++ ms) + 1 < weight t + moves_weight nodes ms
parts_less nodes r (Var l o) ms t e v h = absurd (cc)
parts_less nodes r Rigid ms t e v h = absurd (cc)
parts_less nodes r (Link m) ms t e v h = absurd (h m refl)
parts_less nodes r (Arrow a b) ms t e v h = rw e (omega arith)
parts_less nodes r (Tuple ns) ms t e v h = let i = entries_weight nodes ns ms in rw e (omega arith)
parts_less nodes r (Con p name ns) ms t e v h = let i = entries_weight nodes ns ms in rw e (omega arith)

-- each move leaves less
pub going_less : (nodes : List Node) → IsSound nodes → (move : Move) (old new : Met) (before after : List Move) → IsMove nodes move → Goes nodes before after old new move → moves_weight nodes after < moves_weight nodes (move ∷ before)
going_less nodes sound (enters n) old new before after h (skips done same left) = let i = some_weight (shown nodes n) in rw left (omega arith)
going_less nodes sound (enters n) old new before after h (meets read is lacks adds left) = let i = some_weight (shown nodes n) in rw left (omega arith)
going_less nodes sound (enters n) old new before after h (opens {c = c} read is same left) =
    let less = parts_less nodes (root nodes n) c (leaves (root nodes n) ∷ before) (shown nodes n) (shown_reading nodes sound n c h read) is (λ m l. no_link nodes sound n m h (read ∙ ap Some l)) in
    rw left (omega arith)
going_less nodes sound (leaves n) old new before after h (closes marks left) = rw left (omega arith)

-- nodes and then moves are moves
entries_inside : (nodes : List Node) (ns : List ℕ) (ms : List Move) → All (λ m. m < length nodes) ns → AreMoves nodes ms → AreMoves nodes (entries ns ++ ms)
entries_inside nodes [] ms h r = r
entries_inside nodes (n ∷ ns) ms h r = (h zero zero (omega arith), entries_inside nodes ns ms (λ k d lt. h (suc k) d (omega arith)) r)

-- and nodes alone
pub going_inside : (nodes : List Node) → IsSound nodes → (move : Move) (old new : Met) (before after : List Move) → AreMoves nodes before → Goes nodes before after old new move → AreMoves nodes after
going_inside nodes sound (enters n) old new before after r (skips done same left) = rw left r
going_inside nodes sound (enters n) old new before after r (meets read is lacks adds left) = rw left r
going_inside nodes sound (enters n) old new before after r (opens {c = c} read is same left) = rw left (entries_inside nodes (parts c) (leaves (root nodes n) ∷ before) (parts_inside nodes sound n c read) (tt, r))
going_inside nodes sound (leaves n) old new before after r (closes marks left) = rw left r

-- a new name of a variable, and the mark of its root
pub added : (r : ℕ) (old mid new : Met) (given : VariableName) (put : ℕ → Option VariableName) → Counts r old mid given → ((q : ℕ) → put q ≡ cond (eqb r q) (Some given) (mid.name q)) →
    Marks r (record { weak = mid.weak; name = put; letters = mid.letters; weaks = mid.weaks; done = mid.done }) new → Adds r old new
added r old mid new given put counts names marks = record {
  weak = marks.weak ∙ counts.weak;
  done = λ q. marks.done q ∙ ap (λ f. cond (eqb r q) true (f q)) counts.done;
  name = λ q. ap (λ f. f q) marks.name ∙ (names q ∙ (ap (λ g. cond (eqb r q) (Some g) (mid.name q)) counts.given ∙ ap (λ f. cond (eqb r q) (Some (next_name old r)) (f q)) counts.names));
  letters = marks.letters ∙ counts.letters;
  weaks = marks.weaks ∙ counts.weaks;
}

-- a variable is met as its root is
pub met_variable : (nodes : List Node) (n r : ℕ) (c : Node) (left : List Move) (old new : Met) → r ≡ root nodes n → reading nodes n ≡ Some c → is_variable c ≡ true → old.done r ≡ false → Adds r old new → Goes nodes left left old new (enters n)
met_variable nodes n r c left old new e read is lacks adds = meets read is (subst (λ k. old.done k ≡ false) e lacks) (subst (λ k. Adds k old new) e adds) refl

-- a node is gone into as its root is
pub opened_parts : (nodes : List Node) (n r : ℕ) (c : Node) (before after : List Move) (m : Met) → r ≡ root nodes n → reading nodes n ≡ Some c → is_variable c ≡ false → after ≡ entries (parts c) ++ leaves r ∷ before → Goes nodes before after m m (enters n)
opened_parts nodes n r c before after m e read is left = opens read is refl (left ∙ ap (λ k. entries (parts c) ++ leaves k ∷ before) e)

-- a mark is a way back
pub left_root : (nodes : List Node) (r : ℕ) (left : List Move) (old new : Met) → Marks r old new → Goes nodes left left old new (leaves r)
left_root nodes r left old new marks = closes marks refl

-- at the start the whole is to come
pub going_start : (nodes : List Node) → IsSound nodes → (weak all : List ℕ) (n r : ℕ) (m : Met) → n < length nodes → r ≡ root nodes n → AreNamed nodes weak all m → Going nodes weak (all ++ variables_of (shown nodes n)) m (enters r ∷ [])
going_start nodes sound weak all n r m h e named = record {
  so_far = all;
  named = named;
  closing = tt;
  rest = ap (λ vs. all ++ vs) (append-nil (variables_of (shown nodes r)) ∙ ap variables_of (shown_root nodes sound n r h e));
}

-- two numbers are tested the same either way
same_either : (a b : ℕ) → eqb a b ≡ eqb b a
same_either a b = elim (eqb_tells a b) [
  | inl (e, same) ↦ e ∙ sym (eq-eqb b a (sym same))
  | inr (e, other) ↦ e ∙ sym (ne_eqb b a (λ h. other (sym h)))
]

-- what is there with one more, or among others, is there, or the one, or among the others
shifted : (b h l : Bool) → (cond b true h || l) ≡ (h || (b || l))
shifted true true l = refl
shifted true false l = refl
shifted false h l = refl

-- the roots of nodes so far, when one more is there
pub root_more : (nodes : List Node) (ns : List NodeRef) (i : ℕ) (d : NodeRef) (r q : ℕ) (before after : ℕ → Bool) (whole : Bool) → i < length ns → r ≡ root nodes (get_or ns i d).0 →
    ((k : ℕ) → after k ≡ cond (eqb r k) true (before k)) → (before q || is_among q (roots_of nodes (numbers (drop i ns)))) ≡ whole → (after q || is_among q (roots_of nodes (numbers (drop (i + 1) ns)))) ≡ whole
root_more nodes ns i d r q before after whole h e put so_far =
    let rest = is_among q (roots_of nodes (numbers (drop (i + 1) ns))) in
    let left : (before q || is_among q (roots_of nodes (numbers (drop i ns)))) ≡ (before q || (eqb q (root nodes (get_or ns i d).0) || rest)) = ap (λ ms. before q || is_among q (roots_of nodes (numbers ms))) (drop_more ns i d h) in
    ap (λ b. b || rest) (put q) ∙ (shifted (eqb r q) (before q) rest ∙ (ap (λ b. before q || (b || rest)) (same_either r q ∙ ap (eqb q) e) ∙ (sym left ∙ so_far)))

-- a test or none is the test
or_none : (b : Bool) → b ≡ (b || false)
or_none true = refl
or_none false = refl

-- behind the last node none is left
pub root_end : (nodes : List Node) (ns : List NodeRef) (i q : ℕ) (b whole : Bool) → length ns ≤ i → (b || is_among q (roots_of nodes (numbers (drop i ns)))) ≡ whole → b ≡ whole
root_end nodes ns i q b whole h e = or_none b ∙ (ap (λ ms. b || is_among q (roots_of nodes (numbers ms))) (sym (drop_all i ns h)) ∙ e)

-- before the first text no variable was met
pub named_none : (nodes : List Node) (weak : List ℕ) (m : Met) → ((v : ℕ) → m.weak v ≡ is_among v weak) → m.letters ≡ 0 → m.weaks ≡ 0 → ((n : ℕ) → m.done n ≡ false) → AreNamed nodes weak [] m
named_none nodes weak m marked letters weaks none = record {
  marked = marked;
  letters = letters;
  weaks = weaks;
  named = λ v e. absurd (cc);
  met = λ v e. absurd (cc);
  done = λ n e. let lacks = none n in absurd (cc);
}
