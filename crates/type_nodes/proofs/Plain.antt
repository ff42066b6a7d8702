-- Plain nodes stay plain by each write.
use Rattle.std.proofs.Common.{◌≡◌, ℕ, List, [], ◌∷◌, ◌++◌, set, Some, sym, ◌∙◌, subst, inl, inr}
use Rattle.std.specs.Prelude.{slice_get}
use Rattle.type_nodes.specs.Nodes.{Node, IsPlainNode, IsPlain}
use Rattle.type_nodes.proofs.Lists.{same_or_other, one_element, get-set_same, get-set_other, get-append_cases}

-- with one node more
pub added_plain : (nodes : List Node) (c : Node) → IsPlainNode c → IsPlain nodes → IsPlain (nodes ++ c ∷ [])
added_plain nodes c is plain = record {
  each = λ n x e. elim (get-append_cases nodes c n x e) [
    | inl at ↦ plain.each n x at
    | inr (e', e'') ↦ subst IsPlainNode (sym e'') is
  ];
}

-- with another node at a number
pub replaced_plain : (nodes : List Node) (r : ℕ) (b c : Node) → slice_get nodes r ≡ Some b → IsPlainNode c → IsPlain nodes → IsPlain (set nodes r c)
replaced_plain nodes r b c at is plain = record {
  each = λ n x e. elim (same_or_other n r) [
    | inl same ↦ subst IsPlainNode (one_element c x (slice_get (set nodes r c) r) (get-set_same nodes r b c at) (subst (λ k. slice_get (set nodes r c) k ≡ Some x) same e)) is
    | inr other ↦ plain.each n x (sym (get-set_other nodes r n c other) ∙ e)
  ];
}
