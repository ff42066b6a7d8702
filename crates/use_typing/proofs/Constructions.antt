-- What uses of constructors and labels carry of the conditions that the definitions ask.
use Rattle.std.proofs.Common.{◌≡◌, ◌∙◌, ◌⊎◌, inl, inr, ℕ, true, List, Option, Some, None, refl, sym, ap, subst}
use Rattle.std.specs.Prelude.{option_map, Result, Ok, Err, IfOk}
use Rattle.std.specs.declared.alloc.AllocError.{AllocError}
use Rattle.token_model.specs.Kinds.{Tok}
use Rattle.signature_model.specs.Lookups.{FoundAmong, an_entry, a_hole, nothing}
use Rattle.typing_model.specs.Parts as parts
use Rattle.type_terms.specs.declared.types.NodeRef.{NodeRef}
use Rattle.type_nodes.specs.Nodes.{Arrow, IsNode}
use Rattle.type_nodes.specs.Links.{reading}
use Rattle.env_table.specs.declared.entries.Constructor.{Constructor}
use Rattle.env_table.specs.declared.entries.Entry.{Entry}
use Rattle.env_table.specs.declared.entries.Kind.TheVariants as kind
use Rattle.env_table.specs.declared.entries.Label.{Label}
use Rattle.typing_state.specs.declared.parts.Parts.{Parts}
use Rattle.typing_state.specs.declared.messages.Word.TheVariants as word
use Rattle.typing_state.specs.Goes.{OnlyStore, OnlyFaults}
use Rattle.typing_state.specs.Types.{MakesVar, any_scope}
use Rattle.typing_state.specs.Bound.{found_at, lost_among, BoundIs, BoundLastIs}
use Rattle.typing_conditions.specs.Declared.{constructor_in, label_in}
use Rattle.type_model.specs.Types.{Typ}
use Rattle.type_nodes.specs.Nodes.{IsSound}
use Rattle.level_unify.specs.Instances.{Instantiated}
use Rattle.typing_state.specs.Types.{level_for}
use Rattle.typing_conditions.specs.Sights.{Key, Letters, IsKnownFor}
use Rattle.typing_conditions.specs.Frames.{Frame}
use Rattle.typing_conditions.specs.Carrying.{Scope}
use Rattle.typing_conditions.specs.Surroundings.{Surrounds}
use Rattle.typing_steps.specs.States.{is_aloud, sight}
use Rattle.typing_steps.specs.Typing.{as_declared}
use Rattle.typing_steps.specs.Building.{BuildsUnknown, LabelKnown, LabelUnknown, TypesConstructor, TypesLabel, TypesNoLabel}
use Rattle.typing_steps.proofs.Constructing.{SplitsInto, constructor_known, constructor_lost, constructor_in_hole, constructor_missing, found_constructor}
use Rattle.typing_steps.proofs.Labelling.{label_lost, label_in_hole, label_missing, label_splits, label_root_inside, label_known, found_label}
use Rattle.use_typing.specs.declared.uses.Construction.{Construction}
use Rattle.use_typing.specs.declared.uses.LabelUse.{LabelUse}
use Rattle.use_typing.specs.Uses.{taken_by, TellsCountsLast, BySides, IsNoArrow, BuildsBy, BuildsNew, SidesOf, UsesLabel, UsesLabelIf, TypesLabelIf}
use Rattle.use_typing.proofs.Telling.{behind}

-- the node of the argument's type
abbrev pub argument_of : Construction → Option ℕ
argument_of r = option_map (λ (m : NodeRef). m.0) r.argument

-- the sides of an instance, by what is built
split_of : (k : Constructor) (d e : Parts) (r : Construction) (b : BuildsBy k d e r) → SplitsInto k.has_argument e b.node.0 r.built.0 (argument_of r)
split_of k d e r b = by b.sides
  where
    by : ((k.has_argument ≡ true) × BySides e b.node r) ⊎ ((k.has_argument ≡ true → IsNoArrow e b.node) × (r.built ≡ b.node) × (r.argument ≡ None)) → SplitsInto k.has_argument e b.node.0 r.built.0 (argument_of r)
    by (inl (has, s)) = inl (has, (s.from.0, s.to.0, s.arrow, ap (λ (m : NodeRef). m.0) s.built, ap (option_map (λ (m : NodeRef). m.0)) s.argument))
    by (inr (none, built, argument)) = inr ((λ has x y inside reads. none has x y inside reads), ap (λ (m : NodeRef). m.0) built, ap (option_map (λ (m : NodeRef). m.0)) argument)

-- a constructor that is found, by the calls of its use
pub construction_known : (r : Result Construction AllocError) (a b d e : Parts) (env : List Entry) (given : Option Entry) (qs : List Tok) (last : Option Tok) (k : Constructor) (count : ℕ) → BoundLastIs last kind.Constructor given a b env qs → behind constructor_in given ≡ Some k →
    TellsCountsLast last (taken_by k) count b d → OnlyFaults b d → IfOk r (λ x. BuildsBy k d e x) → OnlyStore d e → IfOk r (λ x. TypesConstructor a e env (record { qualifiers = qs; last = last }) count x.known x.built.0 (argument_of x))
construction_known (Err x) a b d e env given qs last k count bound is counted only builds rest = tt
construction_known (Ok r) a b d e env given qs None k count bound is counted only builds rest = absurd (let f : None ≡ Some k = sym (ap (behind constructor_in) bound.0) ∙ is in cc)
construction_known (Ok r) a b d e env given qs (Some t) k count bound is counted only builds rest =
    subst (λ v. TypesConstructor a e env (record { qualifiers = qs; last = Some t }) count v r.built.0 (argument_of r)) (sym builds.known) (by (found_at env qs kind.Constructor t) refl bound)
  where
    by : (f : FoundAmong Entry) → found_at env qs kind.Constructor t ≡ f → BoundIs f given a b (lost_among env qs) t word.Constructor → TypesConstructor a e env (record { qualifiers = qs; last = Some t }) count true r.built.0 (argument_of r)
    by (an_entry x) finds same = λ aloud F scope G n own names.
        constructor_known a b given qs t n count names aloud bound d e r.built.0 (argument_of r) own finds (sym (ap (behind constructor_in) same.0) ∙ is) counted only builds.instance.sound builds.instance.instance rest (split_of k d e r builds)
    by a_hole finds same = absurd (let f : None ≡ Some k = sym (ap (behind constructor_in) same.0) ∙ is in cc)
    by nothing finds same = absurd (let f : None ≡ Some k = sym (ap (behind constructor_in) same.0) ∙ is in cc)

-- what the use of a constructor carries of which nothing is known
abbrev pub TypesUnknown : (a b : Parts) → List Entry → parts.Written → ℕ → ℕ → Type 0
TypesUnknown a b env p count m = is_aloud a.telling ≡ true → (F : Frame) (scope : Scope) (G : Letters) (n : ℕ) (key : Key) → ((t : Typ) → IsKnownFor key t) → Surrounds as_declared F (sight a) G env scope → BuildsUnknown F scope (sight a) G (sight b) n count p key m

-- a constructor of which nothing is known
pub construction_unknown : (r : Result Construction AllocError) (a b e : Parts) (env : List Entry) (given : Option Entry) (qs : List Tok) (last : Option Tok) (count : ℕ) → BoundLastIs last kind.Constructor given a b env qs → behind constructor_in given ≡ None →
    IfOk r (λ x. BuildsNew b e x) → OnlyStore b e → IfOk r (λ x. TypesConstructor a e env (record { qualifiers = qs; last = last }) count x.known x.built.0 (argument_of x))
construction_unknown (Err x) a b e env given qs last count bound is builds rest = tt
construction_unknown (Ok r) a b e env given qs None count bound is builds rest =
    subst (λ v. TypesConstructor a e env (record { qualifiers = qs; last = None }) count v r.built.0 (argument_of r)) (sym builds.known) (
      ap (option_map (λ (m : NodeRef). m.0)) builds.argument,
      λ aloud F scope G n key free names. constructor_missing a e qs n count key free names (subst (λ z. MakesVar z e r.built.0 any_scope) bound.1 builds.built) (subst (λ z. OnlyStore z e) bound.1 rest),
    )
construction_unknown (Ok r) a b e env given qs (Some t) count bound is builds rest =
    subst (λ v. TypesConstructor a e env (record { qualifiers = qs; last = Some t }) count v r.built.0 (argument_of r)) (sym builds.known) (ap (option_map (λ (m : NodeRef). m.0)) builds.argument, by (found_at env qs kind.Constructor t) refl bound)
  where
    by : (f : FoundAmong Entry) → found_at env qs kind.Constructor t ≡ f → BoundIs f given a b (lost_among env qs) t word.Constructor → TypesUnknown a e env (record { qualifiers = qs; last = Some t }) count r.built.0
    by (an_entry x) finds same = λ aloud F scope G n key free names. absurd (
        let (k, there) = found_constructor a qs t names finds in
        let f : Some k ≡ None = sym there ∙ sym (ap (behind constructor_in) same.0) ∙ is in cc)
    by a_hole finds same = λ aloud F scope G n key free names. constructor_in_hole a b given qs t n count names aloud bound e key free builds.built rest finds
    by nothing finds same = λ aloud F scope G n key free names. constructor_lost a b given qs t n count names aloud bound e key free builds.built rest finds

-- a label that is found, by the calls of its use
label_typed : (a b e : Parts) {env : List Entry} (given : Option Entry) (qs : List Tok) (t : Tok) (l : Label) (u : LabelUse) → BoundIs (found_at env qs kind.Label t) given a b (lost_among env qs) t word.Label → behind label_in given ≡ Some l → UsesLabel l b e u → OnlyStore b e →
    TypesLabel a e env (record { qualifiers = qs; last = Some t }) u.record.0 u.field.0 u.is_mutable
label_typed a b e {env} given qs t l u bound is uses rest aloud F scope G n own names = by (found_at env qs kind.Label t) refl bound
  where
    by : (f : FoundAmong Entry) → found_at env qs kind.Label t ≡ f → BoundIs f given a b (lost_among env qs) t word.Label → LabelKnown F scope (sight a) G (sight e) n own (record { qualifiers = qs; last = Some t }) u.record.0 u.field.0 u.is_mutable
    by a_hole finds same = absurd (let f : None ≡ Some l = sym (ap (behind label_in) same.0) ∙ is in cc)
    by nothing finds same = absurd (let f : None ≡ Some l = sym (ap (behind label_in) same.0) ∙ is in cc)
    by (an_entry x) finds same = here uses.sides
      where
        is_label : label_in x.what ≡ Some l
        is_label = sym (ap (behind label_in) same.0) ∙ is

        inside : IsNode b.store.nodes l.root.0
        inside = label_root_inside a b given qs t n names aloud bound finds is_label

        here : SidesOf uses.made e uses.node u.record u.field → LabelKnown F scope (sight a) G (sight e) n own (record { qualifiers = qs; last = Some t }) u.record.0 u.field.0 u.is_mutable
        here (inl (reads, stays)) =
            subst (λ m. LabelKnown F scope (sight a) G (sight e) n own (record { qualifiers = qs; last = Some t }) u.record.0 u.field.0 m) (sym uses.mutable)
            (label_known a b given qs t n names aloud bound finds is_label e own (subst (λ z. IsSound z.store.nodes) (sym stays) (uses.instance.sound inside)) (subst (λ z. Instantiated b.store.nodes z.store.nodes l.root.0 (level_for b.level) uses.node.0) (sym stays) (uses.instance.instance inside)) rest
            (subst (λ z. reading z.store.nodes uses.node.0 ≡ Some (Arrow u.record.0 u.field.0)) (sym stays) reads))
        here (inr (none, between, from, to)) = absurd (
            let (x, y, reads) = label_splits a b given qs t n names aloud bound finds is_label uses.made.store.nodes (uses.instance.sound inside) (uses.instance.instance inside) in
            none x y (uses.instance.instance inside).inside reads)

-- a label, if one is found
pub label_carried : (a b e : Parts) (env : List Entry) (u : Option LabelUse) (given : Option Entry) (qs : List Tok) (last : Option Tok) → BoundLastIs last kind.Label given a b env qs → UsesLabelIf (behind label_in given) b e u →
    (behind label_in given ≡ None → e ≡ b) → OnlyStore b e → TypesLabelIf u a e env (record { qualifiers = qs; last = last })
label_carried a b e env u given qs None bound uses none rest =
    let nothing_there = ap (behind label_in) bound.0 in
    let gone : u ≡ None = (subst (λ o. UsesLabelIf o b e u) nothing_there uses).0 in
    subst (λ o. TypesLabelIf o a e env (record { qualifiers = qs; last = None })) (sym gone) (λ aloud F scope G n names. label_missing a e qs n (none nothing_there ∙ bound.1))
label_carried a b e env u given qs (Some t) bound uses none rest = by (behind label_in given) refl uses
  where
    found_none : behind label_in given ≡ None → TypesNoLabel a e env (record { qualifiers = qs; last = Some t })
    found_none nothing_there aloud F scope G n names = subst (λ z. LabelUnknown F scope (sight a) G (sight z) n (record { qualifiers = qs; last = Some t })) (sym (none nothing_there)) (at (found_at env qs kind.Label t) refl bound)
      where
        at : (f : FoundAmong Entry) → found_at env qs kind.Label t ≡ f → BoundIs f given a b (lost_among env qs) t word.Label → LabelUnknown F scope (sight a) G (sight b) n (record { qualifiers = qs; last = Some t })
        at (an_entry x) finds same = absurd (
            let (l, there) = found_label a qs t names finds in
            let f : Some l ≡ None = sym there ∙ sym (ap (behind label_in) same.0) ∙ nothing_there in cc)
        at a_hole finds same = label_in_hole a b given qs t n names aloud bound finds
        at nothing finds same = label_lost a b given qs t n names aloud bound finds

    by : (o : Option Label) → behind label_in given ≡ o → UsesLabelIf o b e u → TypesLabelIf u a e env (record { qualifiers = qs; last = Some t })
    by None is w = subst (λ o. TypesLabelIf o a e env (record { qualifiers = qs; last = Some t })) (sym w.0) (found_none is)
    by (Some l) is (used, there, uses) = subst (λ o. TypesLabelIf o a e env (record { qualifiers = qs; last = Some t })) (sym there) (label_typed a b e given qs t l used bound is uses rest)
