-- That all labels are written: the code and the definitions find the same label absent.
use Rattle.std.proofs.Common.{◌≡◌, ◌∙◌, ℕ, false, List, [], Option, Some, None, refl, sym, ap, if◌then◌else◌}
use Rattle.text_terms.specs.declared.Span.{Span}
use Rattle.type_model.specs.Types.{Typ}
use Rattle.signature_model.specs.Declarations as rules
use Rattle.signature_model.specs.Declarations.{Name}
use Rattle.syntax_tree.specs.View.{place_of}
use Rattle.tree_model.specs.Trees.{Place}
use Rattle.typing_model.specs.Demands.{site, test, incomplete}
use Rattle.typing_model.specs.Contexts.{ask}
use Rattle.typing_model.specs.Records.{is_among, absent_label, ask_complete, labels_in}
use Rattle.type_nodes.specs.Nodes.{Node}
use Rattle.type_nodes.specs.Readings.{Types}
use Rattle.env_table.specs.declared.entries.Label.{Label}
use Rattle.env_table.specs.declared.entries.Shape.{Shape}
use Rattle.typing_conditions.specs.Declared.{LabelAs, OneByOne, no_more, one_more, ShapeAs, tell_nothing, tell_constructors, tell_labels}
use Rattle.typing_state.specs.declared.parts.Parts.{Parts}
use Rattle.typing_conditions.specs.Carrying.{Carried}
use Rattle.typing_conditions.proofs.Carried.{carried_as}
use Rattle.typing_steps.specs.States.{sight}
use Rattle.typing_steps.proofs.Still.{state_still}
use Rattle.typing_steps.proofs.Testing.{test_asked}
use Rattle.record_steps.specs.Alike.{SameLabel, SameRecord}
use Rattle.record_steps.specs.Named.{labels_here}
use Rattle.record_rows.specs.Fields.{RecordHere}
use Rattle.record_rows.specs.Completing.{absent_here, AsksAbsent, AsksComplete, Completes}

module _ {nodes : List Node} {C : List ℕ} {N : Types} {arity : ℕ} {owner : Typ} where
  -- labels that stand for others have the same one absent
  absent_so : (seen : List Name) {ls : List Label} {ks : List rules.Label} → OneByOne (LabelAs nodes C N arity owner) ls ks → absent_here ls seen ≡ absent_label ks seen
  absent_so seen no_more = refl
  absent_so seen (one_more {x = l} {y = k} {xs = ls} {ys = ks} p ps) =
      ap (λ n. if is_among n seen then absent_here ls seen else Some n) (sym p.name) ∙ ap (λ o. if is_among k.name seen then o else Some k.name) (absent_so seen ps)

  shape_absent : (seen : List Name) {s : Shape} {z : rules.Shape} → ShapeAs nodes C N arity owner s z → absent_here (labels_here s) seen ≡ absent_label (labels_in z) seen
  shape_absent seen (tell_nothing e) = ap (λ s. absent_here (labels_here s) seen) e
  shape_absent seen (tell_constructors e h) = ap (λ s. absent_here (labels_here s) seen) e
  shape_absent seen (tell_labels e h) = ap (λ s. absent_here (labels_here s) seen) e ∙ absent_so seen h

-- declarations that are one as records have the same label absent
pub same_absent : (seen : List Name) {ls ks : List rules.Label} → OneByOne SameLabel ls ks → absent_label ls seen ≡ absent_label ks seen
same_absent seen no_more = refl
same_absent seen (one_more {x = l} {y = k} {xs = ls} {ys = ks} p ps) =
    ap (λ n. if is_among n seen then absent_label ls seen else Some n) p.name ∙ ap (λ o. if is_among k.name seen then o else Some k.name) (same_absent seen ps)

-- where no label is absent nothing is asked
none_absent : (n k : ℕ) (at : Place) (e : rules.Declaration) (seen : List Name) → absent_label (labels_in e.shape) seen ≡ None → ask_complete n k at (Some e) seen ≡ []
none_absent n k at e seen h = rw (h, ask_complete) refl

-- where one is, it is named
one_absent : (n k : ℕ) (at : Place) (e : rules.Declaration) (seen : List Name) (x : Name) → absent_label (labels_in e.shape) seen ≡ Some x → ask_complete n k at (Some e) seen ≡ ask n k at (test (incomplete x) false)
one_absent n k at e seen x h = rw (h, ask_complete) refl

-- so declarations that are one as records ask the same
pub complete_same : (n k : ℕ) (at : Place) (d e : rules.Declaration) (seen : List Name) → SameRecord d e → ask_complete n k at (Some d) seen ≡ ask_complete n k at (Some e) seen
complete_same n k at d e seen s = by (absent_label (labels_in e.shape) seen) refl
  where
    by : (o : Option Name) → absent_label (labels_in e.shape) seen ≡ o → ask_complete n k at (Some d) seen ≡ ask_complete n k at (Some e) seen
    by None h = none_absent n k at d seen (same_absent seen s.labels ∙ h) ∙ sym (none_absent n k at e seen h)
    by (Some x) h = one_absent n k at d seen x (same_absent seen s.labels ∙ h) ∙ sym (one_absent n k at e seen x h)

-- The demand that all labels are written is carried by its call.
pub complete_asked : (a b : Parts) (here : RecordHere) (seen : List Name) (span : Span) → AsksComplete here seen a b span → Completes a b here seen (place_of span)
complete_asked a b None seen span same aloud F scope G n None known = state_still a b same
complete_asked a b None seen span same aloud F scope G n (Some e) known = absurd known
complete_asked a b (Some r) seen span asks aloud F scope G n None known = absurd known
complete_asked a b (Some r) seen span asks aloud F scope G n (Some e) known = by (absent_here (labels_here r.0.shape) seen) (sym (shape_absent seen known.0.is.shape)) asks
  where
    by : (o : Option Name) → absent_label (labels_in e.shape) seen ≡ o → AsksAbsent o a b span → Carried F scope (λ c. ask_complete n 3 (place_of span) (Some e) seen) (sight a) G (sight b) G
    by None h same = carried_as (λ c. sym (none_absent n 3 (place_of span) e seen h)) (state_still a b same)
    by (Some x) h tested = carried_as (λ c. sym (one_absent n 3 (place_of span) e seen x h)) (test_asked a b (incomplete x) (site n 3) false aloud tested).carried
