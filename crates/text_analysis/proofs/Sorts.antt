-- Parts of nodes of different sorts have different plain parts.
use Rattle.std.proofs.Common.{◌≡◌, ◌∙◌, ℕ, ◌<◌, refl, sym, ap, arith}
use Rattle.std.specs.declared.rc.Rc.{Rc}
use Rattle.std.specs.declared.alloc.Global.{Global}
use Rattle.text_terms.specs.declared.Span.{Span}
use Rattle.tree_model.specs.Trees as plain
use Rattle.syntax_tree.specs.declared.tree.Token.{Token}
use Rattle.syntax_tree.specs.declared.tree.Node.{Node}
use Rattle.syntax_tree.specs.declared.tree.Part.{Part}
use Rattle.syntax_tree.specs.declared.tree.Part.TheVariants.{Taken, Inner, Inner', Missing, rolls-Taken, rolls-Inner, rolls-Missing}
use Rattle.syntax_tree.specs.declared.tree.Part.TheOpen.{Part-F}
use Rattle.syntax_tree.specs.declared.tree.Part.TheFolds.{fold-roll-Part}
use Rattle.syntax_tree.specs.View.{part_view, node_view, tok_of, place_of, part_step, child_step, node_step}

-- the number of a part's sort
abbrev sort_of : plain.Part → ℕ
sort_of (plain.taken t) = 0
sort_of (plain.inner n) = 1
sort_of (plain.missing p) = 2

taken_view : (t : Token) → part_view (Taken t) ≡ plain.taken (tok_of t)
taken_view t = ap part_view (sym (rolls-Taken t)) ∙ fold-roll-Part plain.Part (ℕ × plain.Part) plain.Tree part_step child_step node_step (Part-F.Taken t)

inner_view : (n : Rc Node Global) → part_view (Inner n) ≡ plain.inner (node_view n.value)
inner_view n = ap part_view (sym (rolls-Inner n)) ∙ fold-roll-Part plain.Part (ℕ × plain.Part) plain.Tree part_step child_step node_step (Part-F.Inner n)

missing_view : (s : Span) → part_view (Missing s) ≡ plain.missing (place_of s)
missing_view s = ap part_view (sym (rolls-Missing s)) ∙ fold-roll-Part plain.Part (ℕ × plain.Part) plain.Tree part_step child_step node_step (Part-F.Missing s)

apart : (p q : plain.Part) → sort_of p < sort_of q → p ≡ q → ⊥
apart p q less same = let sorts : sort_of p ≡ sort_of q = ap sort_of same in omega (arith, sorts, less)

-- a part that is like a token is one
pub taken_only : (p q : Part) (t : Token) → p ≡ Taken t → ((u : Token) → q ≡ Taken u → ⊥) → part_view p ≡ part_view q → ⊥
taken_only p (Taken u) t is not same = not u refl
taken_only p (Inner' r n) t is not same =
    apart (plain.taken (tok_of t)) (plain.inner (node_view n)) (omega arith) (sym (taken_view t) ∙ ap part_view (sym is) ∙ same ∙ inner_view (record { ptr = r.ptr; value = n }))
taken_only p (Missing s) t is not same = apart (plain.taken (tok_of t)) (plain.missing (place_of s)) (omega arith) (sym (taken_view t) ∙ ap part_view (sym is) ∙ same ∙ missing_view s)

-- a part that is like one that is missing is missing
pub missing_only : (p q : Part) (s : Span) → p ≡ Missing s → ((u : Span) → q ≡ Missing u → ⊥) → part_view p ≡ part_view q → ⊥
missing_only p (Taken t) s is not same = apart (plain.taken (tok_of t)) (plain.missing (place_of s)) (omega arith) (sym (taken_view t) ∙ sym same ∙ ap part_view is ∙ missing_view s)
missing_only p (Inner' r n) s is not same =
    apart (plain.inner (node_view n)) (plain.missing (place_of s)) (omega arith) (sym (inner_view (record { ptr = r.ptr; value = n })) ∙ sym same ∙ ap part_view is ∙ missing_view s)
missing_only p (Missing u) s is not same = not u refl
