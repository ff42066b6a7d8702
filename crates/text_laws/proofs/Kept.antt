-- The demands that were kept are those that the definitions keep.
use Rattle.std.proofs.Common.{◌≡◌, ◌∙◌, inl, inr, ℕ, Bool, true, false, ◌||◌, ◌&&◌, List, [], ◌∷◌, ◌++◌, take, refl, sym, ap, subst, append_assoc}
use Rattle.type_model.proofs.Applying.{or_cases, or_left, or_right}
use Rattle.tree_model.specs.Trees.{Tree}
use Rattle.signature_model.specs.Entries.{Environment}
use Rattle.typing_model.specs.Demands.{Site, same_site, Condition, AllHold, sites_of}
use Rattle.typing_model.specs.Contexts.{Choice, Context}
use Rattle.typing_model.specs.Typings.{outermost, conditions_of, no_choice, demands_of, is_site_among, sites_before, kept_before, kept_with, conditions_up_to, is_closing, IsMetUpTo, IsKept}
use Rattle.type_nodes.proofs.Identity.{identity, identity_fits}
use Rattle.typing_laws.proofs.Bools.{no_yes}
use Rattle.typing_conditions.specs.Sights.{Sight, Letters}
use Rattle.typing_conditions.specs.Judging.{Judgement, judged_at, judgements, AreKept, FallsShort, AnySeen, Meets}
use Rattle.typing_conditions.proofs.Judged.{kept_left, kept_right, hold_first, judged_kept}
use Rattle.typing_conditions.proofs.Adequate.{first_up_to}
use Rattle.binding_rows.specs.Outside.{EntersItems}
use Rattle.text_laws.specs.Texts.{sites_judged, NoneCloses, IsOrderly, IsTyped}
use Rattle.text_laws.proofs.Sites.{one_site, same_as_itself, sites_of_judged, kept_alike, comes_before, up_to_asked, up_to_all, hold_under, no_body}

-- the judgement at a place is of what is kept
kept_at : (kept : Site → Bool) (before after : List Judgement) (s : Site) (t closing : Bool) → AreKept kept (before ++ judged_at s t closing ∷ after) → kept s ≡ t
kept_at kept before after s t closing h = (kept_right kept before (judged_at s t closing ∷ after) h).0

closes_at : (before after : List Judgement) (s : Site) (t closing : Bool) → NoneCloses (before ++ judged_at s t closing ∷ after) → closing ≡ false
closes_at [] after s t closing h = h.0
closes_at (j ∷ before) after s t closing h = closes_at before after s t closing h.1

not_either : (b c : Bool) → (b || c) ≡ false → (b ≡ false) × (c ≡ false)
not_either true c e = absurd (no_yes (sym e))
not_either false c e = (refl, e)

not_both : (b c : Bool) → b ≡ true → (b && c) ≡ false → c ≡ false
not_both true c h e = e
not_both false c h e = absurd (no_yes h)

pub either_holds : (b c : Bool) → (b && c) ≡ true → b ≡ true
either_holds true c e = refl
either_holds false c e = e

-- what doesn't hold fails
pub fails : (b : Bool) → (b ≡ true → ⊥) → b ≡ false
fails true h = absurd (h refl)
fails false h = refl

module _ {env : Environment} {text : List Tree} {kept : Site → Bool} {a b : Sight} {G : Letters} (h : IsTyped env text kept a b G) where
  abbrev context : (Site → Bool) → Choice → Context
  context k ch = outermost env k ch

  -- what was judged, at the choice that is read off
  pub met : Meets AnySeen kept (conditions_of env text kept h.choice) h.carried.judged h.carried.told
  met = h.carried.sound h.types (context kept h.choice) h.reads

  -- each choice enters the state before the text
  pub enters : (k : Site → Bool) (ch : Choice) → EntersItems (λ other. env) a [] (identity h.sound.0 a.nodes) (context k ch)
  enters k ch = record {
    env = refl;
    inside = record { recorded = λ i p m e. absurd (let z = sym e ∙ h.none_recorded i p in cc); given = tt };
    fits = identity_fits a.nodes h.sound.0 h.sound.1;
    agrees = record { recorded = λ i p m e. absurd (let z = sym e ∙ h.none_recorded i p in cc); known = λ i p m e. absurd (let z = sym e ∙ h.none_recorded i p in cc); given = tt };
  }

module _ {env : Environment} {text : List Tree} {kept : Site → Bool} {a b : Sight} {G : Letters} (orderly : IsOrderly env text) (h : IsTyped env text kept a b G) where
  -- the demands of the text are those that were judged
  judged_here : judgements kept (conditions_of env text kept no_choice) ≡ h.carried.judged
  judged_here = orderly.alike kept no_choice h.choice ∙ (met h).same

  sites_here : sites_judged h.carried.judged ≡ demands_of env text kept
  sites_here = ap sites_judged (sym judged_here) ∙ sites_of_judged kept (conditions_of env text kept no_choice)

  -- no demand is that a body closes
  pub none_closing : (s : Site) → is_closing env text kept s ≡ false
  none_closing s = no_body kept s (conditions_of env text kept no_choice) (subst NoneCloses (sym judged_here) h.none_closes)

  -- where a demand that isn't kept is kept, with those before it, nothing falls short of what was judged
  never_short : (s : Site) (cs : List Condition) → kept s ≡ false → is_site_among s (sites_judged h.carried.judged) ≡ true → FallsShort (judgements (kept_with env text kept s) cs) h.carried.judged → ⊥
  never_short s cs e there f = elim f.why [
    | inr (c, other) ↦ no_yes (sym (closes_at f.before f.right f.site f.theirs f.closing (subst NoneCloses f.full h.none_closes)) ∙ c)
    | inl (mine, theirs) ↦
        let with_s : Site → Bool = kept_with env text kept s in
        let judged_with : AreKept with_s (f.before ++ judged_at f.site f.mine f.closing ∷ f.left) = subst (AreKept with_s) f.short (judged_kept with_s cs) in
        let judged_so : AreKept kept (f.before ++ judged_at f.site f.theirs f.closing ∷ f.right) = subst (AreKept kept) f.full h.reads.kept in
        let refused : with_s f.site ≡ false = kept_at with_s f.before f.left f.site f.mine f.closing judged_with ∙ mine in
        let was : kept f.site ≡ true = kept_at kept f.before f.right f.site f.theirs f.closing judged_so ∙ theirs in
        let (apart, late) = not_either (same_site s f.site) (kept f.site && is_site_among f.site (sites_before s (demands_of env text kept))) refused in
        let later : is_site_among f.site (sites_before s (sites_judged h.carried.judged)) ≡ false = ap (λ sites. is_site_among f.site (sites_before s sites)) sites_here ∙ not_both (kept f.site) (is_site_among f.site (sites_before s (demands_of env text kept))) was late in
        let front : is_site_among s (sites_judged f.before) ≡ true =
        comes_before s f.site f.theirs f.closing f.before f.right apart (subst (λ js. is_site_among s (sites_judged js) ≡ true) f.full there) (subst (λ js. is_site_among f.site (sites_before s (sites_judged js)) ≡ false) f.full later) in
        no_yes (sym e
        ∙ kept_alike kept with_s f.before s (kept_left kept f.before (judged_at f.site f.theirs f.closing ∷ f.right) judged_so) (kept_left with_s f.before (judged_at f.site f.mine f.closing ∷ f.left) judged_with) front
        ∙ or_left (same_site s s) (kept_before env text kept s s) (same_as_itself s))
  ]

  -- a demand that wasn't kept can't be met together with those before it
  refused : (s : Site) → is_site_among s (demands_of env text kept) ≡ true → kept s ≡ false → IsMetUpTo env text (kept_with env text kept s) s → ⊥
  refused s asked e m = by (is_site_among s (sites_of cs)) refl
    where
      with_s : Site → Bool
      with_s = kept_with env text kept s

      cs : List Condition
      cs = conditions_of env text with_s m.choice

      there : is_site_among s (sites_judged h.carried.judged) ≡ true
      there = ap (is_site_among s) sites_here ∙ asked

      by : (i : Bool) → is_site_among s (sites_of cs) ≡ i → ⊥
      by true i =
          let (k, first) = first_up_to s cs in
          let (before, closing, last) = up_to_asked with_s s cs i in
          elim (h.carried.first k (identity h.sound.0 a.nodes) (context h with_s m.choice) (enters h with_s m.choice) (subst (AllHold with_s) first m.holds)) [
            | inl starts ↦
                let whole : h.carried.judged ≡ before ++ judged_at s (with_s s) closing ∷ starts.rest =
                starts.split ∙ ap (λ us. judgements with_s us ++ starts.rest) (sym first) ∙ ap (λ js. js ++ starts.rest) last ∙ append_assoc before (judged_at s (with_s s) closing ∷ []) starts.rest in
                no_yes (sym e ∙ kept_at kept before starts.rest s (with_s s) closing (subst (AreKept kept) whole h.reads.kept) ∙ or_left (same_site s s) (kept_before env text kept s s) (same_as_itself s))
            | inr short ↦ never_short s (take k cs) e there short
          ]
      by false i = elim (h.carried.complete (identity h.sound.0 a.nodes) (context h with_s m.choice) (enters h with_s m.choice) (subst (AllHold with_s) (up_to_all s cs i) m.holds)) [
        | inl goes ↦ no_yes (sym i ∙ ap (is_site_among s) (sym (sites_of_judged with_s cs) ∙ ap sites_judged goes.same) ∙ there)
        | inr short ↦ never_short s cs e there short
      ]

  -- a demand that was kept is met together with those before it
  kept_is_met : (s : Site) → kept s ≡ true → IsMetUpTo env text (kept_with env text kept s) s
  kept_is_met s e = record {
    choice = h.choice;
    holds = subst (AllHold with_s) (sym (orderly.settled kept with_s h.choice s agree)) (hold_under kept with_s fewer (conditions_up_to s cs) (subst (AllHold kept) (sym here.1) (hold_first kept here.0 cs (met h).holds)));
  }
    where
      with_s : Site → Bool
      with_s = kept_with env text kept s

      cs : List Condition
      cs = conditions_of env text kept h.choice

      here : (k : ℕ) × (conditions_up_to s cs ≡ take k cs)
      here = first_up_to s cs

      fewer : (x : Site) → with_s x ≡ true → kept x ≡ true
      fewer x k = elim (or_cases (same_site s x) (kept_before env text kept s x) k) [
        | inl i ↦ ap kept (sym (one_site s x i)) ∙ e
        | inr j ↦ either_holds (kept x) (is_site_among x (sites_before s (demands_of env text kept))) j
      ]

      agree : (x : Site) → is_site_among x (s ∷ sites_before s (demands_of env text kept)) ≡ true → with_s x ≡ kept x
      agree x i = by (kept x) refl
        where
          by : (k : Bool) → kept x ≡ k → with_s x ≡ kept x
          by true f = elim (or_cases (same_site x s) (is_site_among x (sites_before s (demands_of env text kept))) i) [
            | inl j ↦ or_left (same_site s x) (kept_before env text kept s x) (subst (λ y. same_site s y ≡ true) (sym (one_site x s j)) (same_as_itself s)) ∙ sym f
            | inr j ↦ or_right (same_site s x) (kept_before env text kept s x) (ap (λ k. k && is_site_among x (sites_before s (demands_of env text kept))) f ∙ j) ∙ sym f
          ]
          by false f = fails (with_s x) (λ k. no_yes (sym f ∙ fewer x k)) ∙ sym f

  -- The demands that were kept are the kept demands of the text.
  pub text_kept : IsKept env text kept
  text_kept = record {
    only = λ s e. ap (is_site_among s) (sym sites_here) ∙ h.only s e;
    exists = kept_is_met;
    fails = λ s asked c e m. refused s asked e m;
    closed = λ s c e. absurd (no_yes (sym (none_closing s) ∙ c));
    left_open = λ s asked c e. absurd (no_yes (sym (none_closing s) ∙ c));
  }
