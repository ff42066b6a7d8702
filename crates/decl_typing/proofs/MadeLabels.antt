-- What labels that are read denote, one after the other.
use Rattle.std.proofs.Common.{◌≡◌, ◌∙◌, ◌+◌, ◌<◌, ℕ, true, List, [], ◌∷◌, ◌++◌, length, take, drop, Option, Some, None, sym, ap, subst}
use Rattle.std.specs.Prelude.{slice_index_or}
use Rattle.std.proofs.lemmas.List.{take_more}
use Rattle.type_model.specs.Types.{Typ}
use Rattle.type_model.specs.Types.{Typ as type}
use Rattle.signature_model.specs.Declarations.{Name}
use Rattle.typing_model.specs.Parts.{LabelPart}
use Rattle.env_table.specs.declared.entries.Entry.{Entry}
use Rattle.env_table.specs.declared.entries.Label.{Label}
use Rattle.typing_state.specs.declared.parts.Parts.{Parts}
use Rattle.typing_state.specs.Goes.{Goes, OnlyFaults}
use Rattle.typing_conditions.specs.Frames.{Frame}
use Rattle.typing_conditions.specs.Sights.{Sight}
use Rattle.typing_steps.specs.States.{is_aloud}
use Rattle.typing_rows.specs.Settled.{Before, Around, behind}
use Rattle.declared_rows.specs.Assignments.{Assignment, Assigns, Assigned, Denotes}
use Rattle.declared_rows.specs.Contracts.{Inside}
use Rattle.declared_rows.proofs.Going.{assigned_refl, assigned_then, denotes_on}
use Rattle.typing_rows.proofs.Noted.{noted_on}
use Rattle.declared_rows.proofs.Ordered.{inside_on}
use Rattle.decl_groups.specs.declared.groups.LabelPart.{LabelPart as CodePart}
use Rattle.decl_typing.specs.Labels.{label_as, labels_as, HasBody, SettlesLabelNames}
use Rattle.decl_typing.specs.LabelParts.{LabelIf, ReadsLabel, ReadsLabels, ReadsFirstLabels, AreLabels, no_labels, one_label, nameless_label, FirstFields}
use Rattle.decl_typing.proofs.Labels.{none_read, one_read, all_labels, has_there, left_there}
use Rattle.decl_typing.proofs.Made.{faults_still}

-- labels that were made denote their types later on
pub labels_on : {F : Frame} {arity arity' : ℕ} {U U' : List ℕ} {a b : Sight} {A : Assignment} {owner : Typ} {ps : List CodePart} {ts : List Typ} {ls : List Label} → Assigns F arity' U' a A → (x : Assigned F arity U a b A) → AreLabels A owner ps ts ls → AreLabels x.after owner ps ts ls
labels_on at x no_labels = no_labels
labels_on at x (one_label r is d more) = one_label r is (denotes_on at x d) (labels_on at x more)
labels_on at x (nameless_label none more) = nameless_label none (labels_on at x more)

-- a label that may be made
abbrev pub listed : Option Label → List Label
listed None = []
listed (Some l) = l ∷ []

-- one more
pub label_more : {A : Assignment} {owner : Typ} {ps : List CodePart} {ts : List Typ} {ls : List Label} (p : CodePart) (t : Typ) (o : Option Label) (r : ℕ) → LabelIf p r o → Denotes A r (type.Arrow owner t) → AreLabels A owner ps ts ls → AreLabels A owner (ps ++ p ∷ []) (ts ++ t ∷ []) (ls ++ listed o)
label_more p t None r none d no_labels = nameless_label none no_labels
label_more p t (Some l) r is d no_labels = one_label r is d no_labels
label_more p t o r is d (one_label s was e more) = one_label s was e (label_more p t o r is d more)
label_more p t o r is d (nameless_label none more) = nameless_label none (label_more p t o r is d more)

-- one label more is read
pub one_field : {B : Before} {F : Frame} {arity : ℕ} {A : Assignment} {owner : Typ} {all left : List LabelPart} {ps : List CodePart} {ls : List Label} (a b d : Parts) (env : List Entry) (names : List Name) (nodes : List ℕ) (x : CodePart) (e : ℕ) (o : Option Label) {U : List ℕ} →
    is_aloud b.telling ≡ true → Around env names B → Inside F arity U a A B.named env nodes → Denotes A e owner → HasBody x → FirstFields B F arity a b A owner all (label_as b.item x ∷ left) ps ls → ReadsLabel b d env names nodes x owner e o → FirstFields B F arity a d A owner all left (ps ++ x ∷ []) (ls ++ listed o)
one_field {B} {F} {arity} a b d env names nodes x e o aloud around inside denotes has f r =
    let y = r.read has aloud (behind B f.settled.judged f.settled.fixes) around F arity f.numbers f.on.after (inside_on inside f.on) f.noted (denotes_on inside.assigns f.on denotes) in
    record {
      settled = one_read (label_as b.item x) f.settled y.settled;
      numbers = y.numbers;
      on = assigned_then f.on y.to.on;
      made = label_more x y.settled.type o r.root r.made y.to.denotes (labels_on f.on.assigns y.to.on f.made);
      noted = y.noted;
    }

-- none is read yet
pub no_fields : (a : Parts) (env : List Entry) (names : List Name) (ps : List ℕ) (parts : List CodePart) (owner : Typ) (e : ℕ) (ls : List Label) → ls ≡ [] → ReadsFirstLabels a a env names ps parts parts [] owner e ls
no_fields a env names ps parts owner e ls none = subst (ReadsFirstLabels a a env names ps parts parts [] owner e) (sym none) (λ all aloud B around F arity U A inside noted denotes. record {
  settled = none_read (labels_as a.item parts);
  numbers = U;
  on = assigned_refl inside.assigns;
  made = no_labels;
  noted = noted;
})

-- one more of the loop
pub each_field : (a b d : Parts) (env : List Entry) (names : List Name) (ps : List ℕ) (parts : List CodePart) (k : ℕ) (x : CodePart) (owner : Typ) (e : ℕ) (ls : List Label) (o : Option Label) → k < length parts → x ≡ slice_index_or parts k x → ReadsFirstLabels a b env names ps parts (drop k parts) (take k parts) owner e ls → Goes a b →
    ReadsLabel b d env names ps x owner e o → ReadsFirstLabels a d env names ps parts (drop (k + 1) parts) (take (k + 1) parts) owner e (ls ++ listed o)
each_field a b d env names ps parts k x owner e ls o lt here first goes r = λ all aloud B around F arity U A inside noted denotes.
    let f = subst (λ left. FirstFields B F arity a b A owner (labels_as a.item parts) left (take k parts) ls) (left_there a.item parts k x lt here ∙ ap (λ i. label_as i x ∷ labels_as a.item (drop (k + 1) parts)) (sym goes.item)) (first all aloud B around F arity U A inside noted denotes) in
    subst (λ done. FirstFields B F arity a d A owner (labels_as a.item parts) (labels_as a.item (drop (k + 1) parts)) done (ls ++ listed o)) (sym (take_more parts k x lt ∙ ap (λ y. take k parts ++ y ∷ []) (sym here)))
    (one_field a b d env names ps x e o (ap is_aloud goes.telling ∙ aloud) around inside denotes (has_there parts k x lt here all) f r)

-- all of them, and then their names
pub all_fields : (a b d : Parts) (env : List Entry) (names : List Name) (ps : List ℕ) (parts : List CodePart) (owner : Typ) (e : ℕ) (ls : List Label) → Goes a b → OnlyFaults b d → Goes b d → SettlesLabelNames b d (labels_as b.item parts) → ReadsFirstLabels a b env names ps parts [] parts owner e ls → ReadsLabels a d env names ps parts owner e ls
all_fields a b d env names ps parts owner e ls goes rest goes' judged first = λ all aloud B around F arity U A inside noted denotes.
    let f = first all aloud B around F arity U A inside noted denotes in
    let y = subst (λ i. SettlesLabelNames b d (labels_as i parts)) goes.item judged in
    let still = faults_still b d rest f.on.assigns in
    record {
      settled = all_labels f.settled (y (ap is_aloud goes.telling ∙ aloud) (behind B f.settled.judged f.settled.fixes));
      numbers = f.numbers;
      on = assigned_then f.on still;
      made = labels_on f.on.assigns still f.made;
      noted = noted_on f.numbers f.noted goes';
    }
