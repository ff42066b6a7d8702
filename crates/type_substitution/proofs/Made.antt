-- Stores that get new nodes, and tables that get copies.
use Rattle.std.proofs.Common.{◌≡◌, ◌≢◌, ℕ, zero, suc, ◌+◌, ◌<◌, ◌≤◌, List, [], ◌∷◌, ◌++◌, length, map, get_or, Some, None, inl, inr, refl, sym, ◌∙◌, ap, subst, arith}
use Rattle.std.specs.Prelude.{Result, Ok, Err, IfOk, OnOk, OnErr, slice_get, All}
use Rattle.std.proofs.lemmas.Option.{slice_get_within}
use Rattle.std.specs.declared.alloc.AllocError.{AllocError}
use Rattle.type_terms.specs.declared.types.NodeRef.{NodeRef}
use Rattle.text_terms.specs.Bytes.{str_bytes}
use Rattle.type_nodes.specs.Nodes.{Node, Var, Rigid, Link, Arrow, Tuple, Con, parts, IsNode, IsSound}
use Rattle.type_nodes.specs.Links.{root, reading}
use Rattle.type_nodes.specs.States.{State}
use Rattle.type_nodes.specs.Changes.{Makes}
use Rattle.type_nodes.specs.Views.{numbers}
use Rattle.type_nodes.proofs.Lists.{same_or_other, one_element, get-append_left, get-append_last, length-snoc}
use Rattle.type_nodes.proofs.Roots.{root_no_link}
use Rattle.level_unify.specs.Copies.{Table, image, with_parts, Extends}
use Rattle.level_unify.specs.Walks.{Reached}
use Rattle.level_unify.proofs.Walking.{get_here, parts_inside}
use Rattle.type_substitution.specs.declared.shapes.Shape.{Shape}
use Rattle.type_substitution.specs.declared.shapes.Shape.TheVariants as shape
use Rattle.type_substitution.specs.Substituting.{IsSubstituted}
use Rattle.type_substitution.specs.Copying.{AreSubstituted, HaveCopies, SetsCopy, Gains, IsOver, IsPlace, StandsFor, ShapesAs, shape_parts, IsMade}
use Rattle.type_substitution.proofs.Standing.{of_all, stands_empty}
use Rattle.type_substitution.proofs.Copied.{from_before, later, image_substituted, made_over, kept, for_bound}

pub extends_refl : (nodes : List Node) → Extends nodes nodes
extends_refl nodes = record { longer = omega arith; node = λ n lt. refl; roots = λ n lt. refl }

pub extends_same : (old new : State) → new ≡ old → Extends old.nodes new.nodes
extends_same old new e = subst (λ (s : State). Extends old.nodes s.nodes) (sym e) (extends_refl old.nodes)

pub extends_trans : (a b c : List Node) → Extends a b → Extends b c → Extends a c
extends_trans a b c p q = record {
  longer = let x = p.longer in let y = q.longer in omega arith;
  node = λ n lt. let l = p.longer in q.node n (omega arith) ∙ p.node n lt;
  roots = λ n lt. let l = p.longer in q.roots n (omega arith) ∙ p.roots n lt;
}

makes_extends : (old new : State) (n : ℕ) (c : Node) → Makes old new n c → Extends old.nodes new.nodes
makes_extends old new n c made = record {
  longer = let l = ap length made.added.nodes ∙ length-snoc old.nodes c in omega arith;
  node = λ m lt. ap (λ xs. slice_get xs m) made.added.nodes ∙ get-append_left old.nodes (c ∷ []) m lt;
  roots = made.others;
}

-- a node that was made is there
pub made_here : (old new : State) (n : ℕ) (c : Node) → Makes old new n c → slice_get new.nodes n ≡ Some c
made_here old new n c made = ap (λ xs. slice_get xs n) made.added.nodes ∙ ap (slice_get (old.nodes ++ c ∷ [])) made.added.number ∙ get-append_last old.nodes c

-- a call that makes a node, or nothing
pub call_extends : (r : Result NodeRef AllocError) (old new : State) (c : Node) → IfOk r (λ n. Makes old new n.0 c) → OnErr r (new ≡ old) → Extends old.nodes new.nodes
call_extends (Ok n) old new c made failed = makes_extends old new n.0 c made
call_extends (Err e) old new c made failed = extends_same old new failed

parts_map : (f : ℕ → ℕ) (c : Node) → parts (with_parts f c) ≡ map f (parts c)
parts_map f (Var l o) = refl
parts_map f Rigid = refl
parts_map f (Link m) = refl
parts_map f (Arrow a b) = refl
parts_map f (Tuple ms) = refl
parts_map f (Con p name ms) = refl

images_inside : (nodes : List Node) (vs ts : List ℕ) (T : Table) (ms : List ℕ) → AreSubstituted nodes vs ts T → HaveCopies nodes T ms → All (IsNode nodes) (map (image nodes T) ms)
images_inside nodes vs ts T [] copies has k d lt = absurd (omega arith)
images_inside nodes vs ts T (m ∷ ms) copies has zero d lt = (image_substituted nodes vs ts T m copies (has zero zero (omega arith))).inside
images_inside nodes vs ts T (m ∷ ms) copies has (suc k) d lt = images_inside nodes vs ts T ms copies (λ j e l. has (suc j) e (omega arith)) k d (omega arith)

over_inside : (nodes : List Node) (vs ts : List ℕ) (T : Table) (c x : Node) → AreSubstituted nodes vs ts T → HaveCopies nodes T (parts c) → IsOver nodes T c x → All (IsNode nodes) (parts x)
over_inside nodes vs ts T c x copies has (is, same) = subst (λ ms. All (IsNode nodes) ms) (sym (ap parts same ∙ parts_map (image nodes T) c)) (images_inside nodes vs ts T (parts c) copies has)

-- the parts of what is made are nodes
pub shape_inside : (nodes : List Node) (vs ts : List ℕ) (T : Table) (c : Node) (s : Shape) → AreSubstituted nodes vs ts T → HaveCopies nodes T (parts c) → ShapesAs nodes T c s → All (IsNode nodes) (shape_parts s)
shape_inside nodes vs ts T c shape.Itself copies has is = λ k d lt. absurd (omega arith)
shape_inside nodes vs ts T c shape.Bound copies has is = λ k d lt. absurd (omega arith)
shape_inside nodes vs ts T c (shape.Arrow a b) copies has is = over_inside nodes vs ts T c (Arrow a.0 b.0) copies has is
shape_inside nodes vs ts T c (shape.Tuple ms) copies has is = over_inside nodes vs ts T c (Tuple (numbers ms.items)) copies has is
shape_inside nodes vs ts T c (shape.Con o ms) copies has is = over_inside nodes vs ts T c (Con o.path.items (str_bytes o.name) (numbers ms.items)) copies has is

-- what was made for a root is its copy
pub made_copy : (old new : State) (vs ts : List ℕ) (T : Table) (n m : ℕ) (c : Node) (s : Shape) → IsSound old.nodes → root old.nodes n ≡ n → Extends old.nodes new.nodes → AreSubstituted old.nodes vs ts T → slice_get old.nodes n ≡ Some c → HaveCopies old.nodes T (parts c) →
    ShapesAs old.nodes T c s → IsMade old new vs ts n s m → IsSubstituted old.nodes new.nodes vs ts n m
made_copy old new vs ts T n m c shape.Itself sound end extends copies at has is made =
    let no_link = root_no_link old.nodes sound n c (slice_get_within old.nodes n c at) (ap (slice_get old.nodes) end ∙ at) in
    later old.nodes old.nodes new.nodes vs ts n m extends (subst (IsSubstituted old.nodes old.nodes vs ts n) (sym made) (kept old.nodes vs ts T n c (extends_refl old.nodes) copies at no_link has is))
made_copy old new vs ts T n m c shape.Bound sound end extends copies at has is made = for_bound old.nodes new.nodes vs ts n m c extends at is made
made_copy old new vs ts T n m c (shape.Arrow a b) sound end extends copies at has is made =
    made_over old.nodes new.nodes vs ts T n m c (Arrow a.0 b.0) extends copies at has is (made_here old new m (Arrow a.0 b.0) made)
made_copy old new vs ts T n m c (shape.Tuple ms) sound end extends copies at has is made =
    made_over old.nodes new.nodes vs ts T n m c (Tuple (numbers ms.items)) extends copies at has is (made_here old new m (Tuple (numbers ms.items)) made)
made_copy old new vs ts T n m c (shape.Con o ms) sound end extends copies at has is made =
    let x = Con o.path.items (str_bytes o.name) (numbers ms.items) in
    made_over old.nodes new.nodes vs ts T n m c x extends copies at has is (made_here old new m x made)

-- copies stay, and one more is set
pub one_more : (old new : List Node) (vs ts : List ℕ) (T T' : Table) (n m : ℕ) → IsSound old → Extends old new → All (IsNode old) vs → IsNode old n → AreSubstituted old vs ts T → SetsCopy T T' n m → IsSubstituted old new vs ts n m → AreSubstituted new vs ts T'
one_more old new vs ts T T' n m sound extends nodes lt copies sets is = record {
  each = λ k q e. elim (same_or_other k n) [
    | inl same ↦
        let here : m ≡ q = one_element m q (T' n) sets.own (subst (λ j. T' j ≡ Some q) same e) in (
          (let l = extends.longer in omega arith),
          from_before old new vs ts k q sound extends nodes (subst (λ j. IsSubstituted old new vs ts k j) here (subst (λ j. IsSubstituted old new vs ts j m) (sym same) is)),
        )
    | inr other ↦
        let c = copies.each k q (sym (sets.others k other) ∙ e) in (
          (let i = c.0 in let l = extends.longer in omega arith),
          from_before old new vs ts k q sound extends nodes (later old old new vs ts k q extends c.1),
        )
  ];
}

pub gains_one : (T T' : Table) (n m : ℕ) → SetsCopy T T' n m → Gains T T' n
gains_one T T' n m sets = record {
  own = λ e. (let f : Some m ≡ None = sym sets.own ∙ e in cc);
  others = λ k has e. elim (same_or_other k n) [
    | inl same ↦ (let f : Some m ≡ None = sym sets.own ∙ ap T' (sym same) ∙ e in cc)
    | inr other ↦ has (sym (sets.others k other) ∙ e)
  ];
}

-- the answer of a call that sets the copy
pub set_copies : (r : Result (Unit {0}) AllocError) (old new : List Node) (vs ts : List ℕ) (T T' : Table) (n m : ℕ) → IsSound old → Extends old new → All (IsNode old) vs → IsNode old n → AreSubstituted old vs ts T → IsSubstituted old new vs ts n m → OnOk r (SetsCopy T T' n m) →
    OnOk r (AreSubstituted new vs ts T')
set_copies (Ok u) old new vs ts T T' n m sound extends nodes lt copies is sets = one_more old new vs ts T T' n m sound extends nodes lt copies sets is
set_copies (Err e) old new vs ts T T' n m sound extends nodes lt copies is sets = tt

pub set_gains : (r : Result (Unit {0}) AllocError) (T T' : Table) (n m : ℕ) → OnOk r (SetsCopy T T' n m) → OnOk r (Gains T T' n)
set_gains (Ok u) T T' n m sets = gains_one T T' n m sets
set_gains (Err e) T T' n m sets = tt

-- the answer of a call that makes the empty tuple
pub empty_stands : (r : Result NodeRef AllocError) (old new : State) (vs ts : List ℕ) (v at : ℕ) → Extends old.nodes new.nodes → slice_get ts at ≡ None → IsPlace old.nodes vs v (Some at) → IfOk r (λ n. Makes old new n.0 (Tuple [])) → IfOk r (λ n. StandsFor old.nodes new.nodes vs ts v n.0)
empty_stands (Ok n) old new vs ts v at extends here place made = stands_empty old.nodes new.nodes vs ts v extends at n.0 here place (made_here old new n.0 (Tuple []) made)
empty_stands (Err e) old new vs ts v at extends here place made = tt

-- the first roots that were found have copies
abbrev pub CopiedTo : List ℕ → Table → ℕ → Type 0
CopiedTo found T at = (k n : ℕ) → k < at → slice_get found k ≡ Some n → T n ≢ None

pub copied_on : (found : List ℕ) (T T' : Table) (at n : ℕ) → slice_get found at ≡ Some n → CopiedTo found T at → Gains T T' n → CopiedTo found T' (at + 1)
copied_on found T T' at n here before gains k q lt e = elim (same_or_other k at) [
  | inl same ↦ subst (λ j. T' j ≢ None) (one_element n q (slice_get found at) here (subst (λ j. slice_get found j ≡ Some q) same e)) gains.own
  | inr other ↦ gains.others q (before k q (omega arith) e)
]

-- the parts of the next root have copies
pub parts_copied : (old now : List Node) (from : ℕ) (found : List ℕ) (T : Table) (at n : ℕ) → IsSound old → Reached old from found → Extends old now → slice_get found at ≡ Some n → CopiedTo found T at →
    (c : Node) → reading now n ≡ Some c → HaveCopies now T (parts c)
parts_copied old now from found T at n sound reached extends here before c e k d lt =
    let (inside, end, _) = reached.roots at n here in
    let e' : slice_get old n ≡ Some c = sym (extends.node n inside) ∙ ap (slice_get now) (sym (extends.roots n inside ∙ end)) ∙ e in
    let (j, low, listed) = reached.behind at n c here e' k d lt in
    let p_in = parts_inside old sound n c e' k d lt in
    subst (λ r. T r ≢ None) (sym (extends.roots (get_or (parts c) k d) p_in)) (before j (root old (get_or (parts c) k d)) low listed)

-- all roots that were found have copies
pub all_copied : (nodes : List Node) (from : ℕ) (found : List ℕ) (T : Table) (at : ℕ) → Reached nodes from found → length found ≤ at → CopiedTo found T at → HaveCopies nodes T found
all_copied nodes from found T at reached over before k d lt =
    let e = get_here found k d lt in
    subst (λ r. T r ≢ None) (sym (reached.roots k (get_or found k d) e).1) (before k (get_or found k d) (omega arith) e)

-- the root of what was asked for is among those that were found
pub asked_copied : (old now : List Node) (from : ℕ) (found : List ℕ) (T : Table) → Reached old from found → Extends old now → IsNode old from → HaveCopies old T found → T (root now from) ≢ None
asked_copied old now from found T reached extends inside all =
    let (k, e) = reached.listed from reached.start in
    subst (λ r. T r ≢ None) ((reached.roots k (root old from) e).1 ∙ sym (extends.roots from inside)) (of_all (λ p. T (root old p) ≢ None) found k (root old from) all e)

-- the two nodes of an arrow
pub first_of : (P : ℕ → Type 0) (a b : ℕ) → All P (a ∷ b ∷ []) → P a
first_of P a b h = h zero zero (omega arith)

pub second_of : (P : ℕ → Type 0) (a b : ℕ) → All P (a ∷ b ∷ []) → P b
second_of P a b h = h 1 zero (omega arith)
