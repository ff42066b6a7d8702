-- Tokens, nodes and lists of items that are alike have the same plain trees.
use Rattle.std.proofs.Common.{◌≡◌, ◌∙◌, ◌⊎◌, inl, inr, ℕ, ◌+◌, ◌<◌, ◌≤◌, leb, zero, suc, Bool, List, ◌∷◌, [], ◌++◌, true, false, map, length, take, drop, refl, sym, ap, subst, get_or, arith}
use Rattle.std.specs.Prelude.{not, ◌&&◌, Result, Ok, Err, OnErr}
use Rattle.std.specs.declared.rc.Rc.{Rc}
use Rattle.std.specs.declared.alloc.Global.{Global}
use Rattle.std.proofs.lemmas.Bool.{eqb-true, eq-eqb, leb-true, leb-false}
use Rattle.std.proofs.lemmas.List.{drop_more, take_more, take_more_same}
use lib.Dec.{eqb}
use lib.Seq.{get_or-take}
use Rattle.text_terms.specs.Bytes.{str_bytes}
use Rattle.token_model.specs.Kinds.{Tok}
use Rattle.tree_model.specs.Rows.{Row}
use Rattle.tree_model.specs.Trees as plain
use Rattle.syntax_tree.specs.Names.{kind_of, row_of}
use Rattle.syntax_tree.specs.declared.kinds.TokenKind.{TokenKind}
use Rattle.syntax_tree.specs.declared.tree.Token.{Token}
use Rattle.syntax_tree.specs.declared.tree.Node.{Node, out-Node}
use Rattle.syntax_tree.specs.declared.tree.Child.{Child}
use Rattle.syntax_tree.specs.View.{tok_of, node_view, child_view, part_view, forest_of}
use Rattle.syntax_tree.proofs.Views.{node_view_parts, child_view_parts, row_in, extent_in}
use Rattle.text_analysis.specs.Items.{views_of}
use Rattle.analysis_api.specs.Typed.{GoesOn, LongestFront, SameFront}

both_true : (x y : Bool) → false ≡ not (x && y) → (x ≡ true) × (y ≡ true)
both_true true true h = (refl, refl)
both_true true false h = cc
both_true false true h = cc
both_true false false h = cc

-- two pairs of numbers that don't differ are the same
pub same_ends : (a b c d : ℕ) → false ≡ not (eqb a b && eqb c d) → (a ≡ b) × (c ≡ d)
same_ends a b c d h = let (x, y) = both_true (eqb a b) (eqb c d) h in (eqb-true a b x, eqb-true c d y)

abbrev made : TokenKind → (s e c : ℕ) → List ℕ → Tok
made k s e c n = record { kind = kind_of k; start = s; end = e; col = c; name = n }

-- tokens with the same parts, but for their reaches
pub tokens_alike : (a b : Token) → a.kind ≡ b.kind → a.span.start ≡ b.span.start → a.span.end ≡ b.span.end → a.col ≡ b.col → str_bytes a.name ≡ str_bytes b.name → tok_of a ≡ tok_of b
tokens_alike a b k s e c n =
    ap (λ x. made x a.span.start a.span.end a.col (str_bytes a.name)) k ∙ ap (λ x. made b.kind x a.span.end a.col (str_bytes a.name)) s
    ∙ ap (λ x. made b.kind b.span.start x a.col (str_bytes a.name)) e ∙ ap (λ x. made b.kind b.span.start b.span.end x (str_bytes a.name)) c
    ∙ ap (made b.kind b.span.start b.span.end b.col) n

abbrev extent : (s e z h : ℕ) → plain.Extent
extent s e z h = plain.extent (record { start = s; end = e }) z h

-- nodes with the same parts
pub nodes_alike : (m n : Node) → (out-Node m).row ≡ (out-Node n).row → (out-Node m).span.start ≡ (out-Node n).span.start → (out-Node m).span.end ≡ (out-Node n).span.end
    → (out-Node m).size ≡ (out-Node n).size → (out-Node m).height ≡ (out-Node n).height → map child_view (out-Node m).children.items ≡ map child_view (out-Node n).children.items → node_view m ≡ node_view n
nodes_alike m n r s e z h k =
    let a = out-Node m in
    let b = out-Node n in
    node_view_parts m
    ∙ ap (λ x. plain.node (row_of x) (extent_in m) (forest_of (map child_view a.children.items))) r
    ∙ ap (λ x. plain.node (row_in n) (extent x a.span.end a.size a.height) (forest_of (map child_view a.children.items))) s
    ∙ ap (λ x. plain.node (row_in n) (extent b.span.start x a.size a.height) (forest_of (map child_view a.children.items))) e
    ∙ ap (λ x. plain.node (row_in n) (extent b.span.start b.span.end x a.height) (forest_of (map child_view a.children.items))) z
    ∙ ap (λ x. plain.node (row_in n) (extent b.span.start b.span.end b.size x) (forest_of (map child_view a.children.items))) h
    ∙ ap (λ x. plain.node (row_in n) (extent_in n) (forest_of x)) k
    ∙ sym (node_view_parts n)

views_length : (ns : List (Rc Node Global)) → length (views_of ns) ≡ length ns
views_length [] = refl
views_length (n ∷ ns) = ap suc (views_length ns)

view_at : (ns : List (Rc Node Global)) (k : ℕ) (d : Rc Node Global) → node_view (get_or ns k d).value ≡ get_or (views_of ns) k (node_view d.value)
view_at [] k d = refl
view_at (n ∷ ns) zero d = refl
view_at (n ∷ ns) (suc k) d = view_at ns k d

-- the trees of the first items are the first trees
pub views_take : (ns : List (Rc Node Global)) (k : ℕ) → views_of (take k ns) ≡ take k (views_of ns)
views_take ns zero = refl
views_take [] (suc k) = refl
views_take (n ∷ ns) (suc k) = ap (λ vs. node_view n.value ∷ vs) (views_take ns k)

-- items that are cut off behind what two texts have alike are the first of the other text
pub front_kept : (olds news : List (Rc Node Global)) (n : ℕ) → SameFront (views_of olds) (views_of news) n → views_of (take n olds) ≡ take n (views_of news)
front_kept olds news n front = views_take olds n ∙ front.same

-- what holds in any case holds at an error
pub at_any : {A E : Type 0} {P : Type 0} (r : Result A E) → P → OnErr r P
at_any (Ok a) p = tt
at_any (Err e) p = p

-- one tree more behind the first ones
pub taken_more : (ns : List (Rc Node Global)) (k : ℕ) (n : Rc Node Global) → k < length ns → n ≡ get_or ns k n → take k (views_of ns) ++ views_of (n ∷ []) ≡ take (k + 1) (views_of ns)
taken_more ns k n inside is =
    ap (λ v. take k (views_of ns) ++ v ∷ []) (ap (λ x. node_view x.value) is ∙ view_at ns k n)
    ∙ sym (take_more (views_of ns) k (node_view n.value) (omega (arith, views_length ns, inside)))

-- one item more is alike
pub one_more_alike : (xs ys : List (Rc Node Global)) (k : ℕ) (x y : Rc Node Global) → k < length xs → k < length ys → SameFront (views_of xs) (views_of ys) k
    → x ≡ get_or xs k x → y ≡ get_or ys k y → node_view x.value ≡ node_view y.value → SameFront (views_of xs) (views_of ys) (k + 1)
one_more_alike xs ys k x y left right same is_x is_y alike = record {
  left = omega (arith, views_length xs, left);
  right = omega (arith, views_length ys, right);
  same = take_more_same (views_of xs) (views_of ys) k (node_view x.value) (omega (arith, views_length xs, left)) (omega (arith, views_length ys, right)) same.same
      (sym (view_at xs k x) ∙ sym (ap (λ n. node_view n.value) is_x) ∙ alike ∙ ap (λ n. node_view n.value) is_y ∙ view_at ys k y ∙ ap (get_or (views_of ys) k) (sym alike));
}

-- ---- what isn't alike

-- two pairs of numbers that are the same don't differ
pub ends_differ : (a b c d : ℕ) → true ≡ not (eqb a b && eqb c d) → a ≡ b → c ≡ d → ⊥
ends_differ a b c d h p q = differ (eqb a b) (eqb c d) (eq-eqb a b p) (eq-eqb c d q) h
  where
    differ : (x y : Bool) → x ≡ true → y ≡ true → true ≡ not (x && y) → ⊥
    differ true true p q h = cc
    differ true false p q h = cc
    differ false y p q h = cc

-- where two lists have the same images, those of the items at a place are the same
pub one_at : {A B : Type 0} (f : A → B) (xs ys : List A) (k : ℕ) (x y : A) → k < length xs → k < length ys → x ≡ get_or xs k x → y ≡ get_or ys k y → map f xs ≡ map f ys → f x ≡ f y
one_at f [] ys k x y left right is_x is_y h = absurd (omega (arith, left))
one_at f (a ∷ xs) [] k x y left right is_x is_y h = absurd (omega (arith, right))
one_at f (a ∷ xs) (b ∷ ys) zero x y left right is_x is_y h = let same : f a ≡ f b = cc in ap f is_x ∙ same ∙ sym (ap f is_y)
one_at f (a ∷ xs) (b ∷ ys) (suc k) x y left right is_x is_y h = let same : map f xs ≡ map f ys = cc in one_at f xs ys k x y (omega (arith, left)) (omega (arith, right)) is_x is_y same

abbrev slot_at : ℕ × plain.Part → ℕ
slot_at c = c.0

abbrev part_at : ℕ × plain.Part → plain.Part
part_at c = c.1

-- children with the same slot and part have these
pub slot_same : (c d : Child) → child_view c ≡ child_view d → c.slot ≡ d.slot
slot_same c d h = ap slot_at (sym (child_view_parts c) ∙ h ∙ child_view_parts d)

pub part_same : (c d : Child) → child_view c ≡ child_view d → part_view c.part ≡ part_view d.part
part_same c d h = ap part_at (sym (child_view_parts c) ∙ h ∙ child_view_parts d)

-- children whose rests are alike are alike from the place before, where those there are
pub rest_alike : (ls rs : List Child) (k : ℕ) (x y : Child) → k < length ls → k < length rs → x ≡ get_or ls k x → y ≡ get_or rs k y → x.slot ≡ y.slot → part_view x.part ≡ part_view y.part
    → map child_view (drop (k + 1) ls) ≡ map child_view (drop (k + 1) rs) → map child_view (drop k ls) ≡ map child_view (drop k rs)
rest_alike ls rs k x y left right is_x is_y slots parts rest =
    ap (map child_view) (drop_more ls k x left) ∙ ap (λ c. child_view c ∷ map child_view (drop (k + 1) ls)) (sym is_x)
    ∙ ap (λ v. v ∷ map child_view (drop (k + 1) ls)) (child_view_parts x ∙ ap (λ s. (s, part_view x.part)) slots ∙ ap (λ p. (y.slot, p)) parts ∙ sym (child_view_parts y))
    ∙ ap (λ vs. child_view y ∷ vs) rest ∙ ap (λ c. child_view c ∷ map child_view (drop (k + 1) rs)) is_y ∙ sym (ap (map child_view) (drop_more rs k y right))

abbrev row_at : plain.Tree → Row
row_at (plain.node r x ps) = r

abbrev extent_at : plain.Tree → plain.Extent
extent_at (plain.node r x ps) = x

abbrev forest_at : plain.Tree → plain.Forest
forest_at (plain.node r x ps) = ps

parts_same : (m n : Node) → node_view m ≡ node_view n
    → plain.node (row_in m) (extent_in m) (forest_of (map child_view (out-Node m).children.items)) ≡ plain.node (row_in n) (extent_in n) (forest_of (map child_view (out-Node n).children.items))
parts_same m n h = sym (node_view_parts m) ∙ h ∙ node_view_parts n

-- nodes with the same tree have the same row, the same extent and the same parts
pub row_same : (m n : Node) → node_view m ≡ node_view n → row_in m ≡ row_in n
row_same m n h = ap row_at (parts_same m n h)

pub extent_same : (m n : Node) → node_view m ≡ node_view n → extent_in m ≡ extent_in n
extent_same m n h = ap extent_at (parts_same m n h)

forests_are_one : (xs ys : List (ℕ × plain.Part)) → forest_of xs ≡ forest_of ys → xs ≡ ys
forests_are_one [] [] h = refl
forests_are_one [] (y ∷ ys) h = cc
forests_are_one (x ∷ xs) [] h = cc
forests_are_one ((s, p) ∷ xs) ((t, q) ∷ ys) h =
    let slots : s ≡ t = cc in
    let parts : p ≡ q = cc in
    let rest : forest_of xs ≡ forest_of ys = cc in
    ap (λ z. (z, p) ∷ xs) slots ∙ ap (λ z. (t, z) ∷ xs) parts ∙ ap (λ zs. (t, q) ∷ zs) (forests_are_one xs ys rest)

pub children_same : (m n : Node) → node_view m ≡ node_view n → map child_view (out-Node m).children.items ≡ map child_view (out-Node n).children.items
children_same m n h = forests_are_one (map child_view (out-Node m).children.items) (map child_view (out-Node n).children.items) (ap forest_at (parts_same m n h))

-- ---- how many are alike

-- where two texts differ at a place, no more are alike than those before it
pub none_longer : (xs ys : List plain.Tree) (k : ℕ) (d : plain.Tree) → (get_or xs k d ≡ get_or ys k d → ⊥) → (m : ℕ) → SameFront xs ys m → m ≤ k
none_longer xs ys k d differ m front = go (leb m k) refl
  where
    go : (c : Bool) → leb m k ≡ c → m ≤ k
    go true is = leb-true m k is
    go false is =
        let inside : k < m = leb-false m k is in
        absurd (differ (sym (get_or-take m xs k d inside) ∙ ap (λ l. get_or l k d) front.same ∙ get_or-take m ys k d inside))

-- so many are alike where the next two differ
pub front_ends : (xs ys : List (Rc Node Global)) (k : ℕ) (x y : Rc Node Global) → k < length xs → k < length ys → SameFront (views_of xs) (views_of ys) k
    → x ≡ get_or xs k x → y ≡ get_or ys k y → (node_view x.value ≡ node_view y.value → ⊥) → LongestFront (views_of xs) (views_of ys) k
front_ends xs ys k x y left right same is_x is_y differ = record {
  front = same;
  longest = none_longer (views_of xs) (views_of ys) k (node_view x.value) (λ h.
      differ (ap (λ n. node_view n.value) is_x ∙ view_at xs k x ∙ h ∙ default_at (views_of ys) k (node_view x.value) (node_view y.value) (omega (arith, views_length ys, right)) ∙ sym (view_at ys k y) ∙ sym (ap (λ n. node_view n.value) is_y)));
}
  where
    default_at : (vs : List plain.Tree) (k : ℕ) (d e : plain.Tree) → k < length vs → get_or vs k d ≡ get_or vs k e
    default_at [] k d e inside = absurd (omega (arith, inside))
    default_at (v ∷ vs) zero d e inside = refl
    default_at (v ∷ vs) (suc k) d e inside = default_at vs k d e (omega (arith, inside))

-- where all items of one of the texts are alike, so many are
pub front_is_whole : (xs ys : List plain.Tree) (n : ℕ) → (length xs ≤ n) ⊎ (length ys ≤ n) → SameFront xs ys n → LongestFront xs ys n
front_is_whole xs ys n (inl all) same = record { front = same; longest = λ m more. omega (arith, all, more.left) }
front_is_whole xs ys n (inr all) same = record { front = same; longest = λ m more. omega (arith, all, more.right) }

-- items that are cut off behind those which are alike: nothing was typed
pub cut_only : (xs olds ys news cut : List (Rc Node Global)) (before n : ℕ) → xs ≡ olds → ys ≡ news → LongestFront (views_of xs) (views_of ys) n → cut ≡ take n olds → GoesOn (views_of olds) (views_of news) (views_of cut) before before
cut_only xs olds ys news cut before n is_old is_new front is =
    let same = subst (λ ns. LongestFront (views_of olds) (views_of ns) n) is_new (subst (λ ns. LongestFront (views_of ns) (views_of ys) n) is_old front) in
    let none : n + 0 ≡ n = omega arith in
    record {
      same = n;
      front = same;
      more = 0;
      within = omega (arith, same.front.right);
      holds = ap views_of is ∙ views_take olds n ∙ same.front.same ∙ sym (ap (λ k. take k (views_of news)) none);
      typed = refl;
    }
