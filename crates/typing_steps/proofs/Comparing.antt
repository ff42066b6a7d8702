-- The demand that two types are one.
use Rattle.std.proofs.Common.{◌≡◌, true, List, [], ◌∷◌, refl}
use Rattle.text_terms.specs.declared.Span.{Span}
use Rattle.syntax_tree.specs.View.{place_of}
use Rattle.type_model.specs.Types.{Typ}
use Rattle.typing_model.specs.Demands.{Site, equal, demand}
use Rattle.typing_model.specs.Contexts.{Choice}
use Rattle.type_terms.specs.declared.types.NodeRef.{NodeRef}
use Rattle.env_table.specs.declared.entries.Entry.{Entry}
use Rattle.env_table.specs.declared.faults.FaultKind.TheVariants as fault
use Rattle.typing_state.specs.declared.parts.Parts.{Parts}
use Rattle.typing_state.specs.declared.demands.Verdict.{Verdict}
use Rattle.typing_state.specs.declared.demands.Verdict.TheVariants.{Kept, Reported}
use Rattle.typing_state.specs.Goes.{OnlyStoreAndFaults, Goes}
use Rattle.typing_state.specs.Demands.{EqualIs}
use Rattle.typing_conditions.specs.Sights.{Letters}
use Rattle.typing_conditions.specs.Frames.{Frame}
use Rattle.typing_conditions.specs.Meanings.{Means}
use Rattle.typing_conditions.specs.Carrying.{Scope, SeesScope}
use Rattle.typing_conditions.proofs.Framing.{no_bound}
use Rattle.typing_conditions.proofs.Equals.{equal_kept, equal_told}
use Rattle.typing_steps.specs.States.{is_aloud, sight}
use Rattle.typing_steps.specs.Demands.{JudgedAs, is_kept}
use Rattle.typing_steps.proofs.Seeing.{nodes_of_both, reports_of_both, tells_one}

-- `equal`: the demand is kept or reported
pub equal_asked : (a b : Parts) {F : Frame} {scope : Scope} {G : Letters} {f w : Choice → Typ} {at : Span} {found wanted : NodeRef} (env : List Entry) (s : Site) (v : Verdict) → scope.own s.node ≡ true → SeesScope F scope (sight a) G env → is_aloud a.telling ≡ true →
    Means F (sight a) G f found.0 → Means F (sight a) G w wanted.0 → EqualIs v a b at found wanted env → OnlyStoreAndFaults a b → Goes a b →
    JudgedAs F scope (λ c. demand s (place_of at) (equal (f c.chosen) (w c.chosen)) ∷ []) (sight a) G (sight b) G s (is_kept v)
unfolding equal_kept equal_told
equal_asked a b {at = at} env s Kept own sees aloud p q is rest goes = record {
  carried = equal_kept s (place_of at) is.sound p q (nodes_of_both a b rest is.faults) goes.types (is.one p.open_node.inside q.open_node.inside (no_bound p.open_node q.open_node));
  verdict = refl;
}
equal_asked a b {at = at} env s Reported own sees aloud p q is rest goes = record {
  carried = equal_told s (place_of at) own sees p q (reports_of_both a b rest is.store) (tells_one a b at fault.Equal _ refl aloud is.told.told)
      (record { left = is.left; right = is.right; clash = is.clash; clashes = is.clashes (no_bound p.open_node q.open_node); first = is.told.first; second = is.told.second; texts = is.told.texts; says = refl });
  verdict = refl;
}
