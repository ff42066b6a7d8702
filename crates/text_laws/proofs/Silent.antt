-- Where some types meet all that a text asks, with every demand kept, nothing was reported.
use Rattle.std.proofs.Common.{◌≡◌, ◌∙◌, ◌⊎◌, inl, inr, ℕ, Bool, true, false, None, List, [], ◌∷◌, ◌++◌, length, refl, sym, ap, subst, append-nil, arith}
use Rattle.tree_model.specs.Trees.{Tree}
use Rattle.signature_model.specs.Entries.{Environment}
use Rattle.typing_model.specs.Demands.{Site, Condition, same, instance, made, known, demand, treated}
use Rattle.typing_model.specs.Contexts.{Choice}
use Rattle.typing_model.specs.Typings.{outermost, conditions_of, HasTyping}
use Rattle.typing_model.specs.First.{every_site}
use Rattle.typing_model.specs.Typable.{AreTypable}
use Rattle.type_nodes.specs.Nodes.{IsSound}
use Rattle.type_nodes.proofs.Identity.{identity, identity_fits}
use Rattle.typing_model.specs.Plain.{has_no_modules}
use Rattle.typing_laws.proofs.Bools.{no_yes}
use Rattle.typing_conditions.specs.Sights.{Sight, Letters, Report}
use Rattle.typing_conditions.specs.Judging.{Judgement, judged_at, judgements, refused, FallsShort}
use Rattle.binding_rows.specs.Outside.{EntersItems, ContinuesItems, ItemsCarried}
use Rattle.text_laws.specs.Texts.{text_asks, NoneCloses}
use Rattle.text_laws.proofs.Orderly.{none_closing}
use Rattle.typing_laws.proofs.Settled.{lets_plain}

-- each choice enters a state in which nothing is recorded
pub enters_first : {env : Environment} {a : Sight} → ((i p : ℕ) → a.types i p ≡ None) → (sound : IsSound a.nodes) → (k : Site → Bool) (ch : Choice) → EntersItems (λ other. env) a [] (identity sound.0 a.nodes) (outermost env k ch)
enters_first {a = a} none sound k ch = record {
  env = refl;
  inside = record { recorded = λ i p m e. absurd (let z = sym e ∙ none i p in cc); given = tt };
  fits = identity_fits a.nodes sound.0 sound.1;
  agrees = record {
    recorded = λ i p m e. absurd (let z = sym e ∙ none i p in cc);
    known = λ i p m e. absurd (let z = sym e ∙ none i p in cc);
    given = tt;
  };
}

-- where all demands are kept none is refused
none_refused : (cs : List Condition) → refused (judgements every_site cs) ≡ 0
none_refused [] = refl
none_refused (same t u ∷ cs) = none_refused cs
none_refused (instance s t ∷ cs) = none_refused cs
none_refused (made n t ∷ cs) = none_refused cs
none_refused (known t ∷ cs) = none_refused cs
none_refused (demand s at d ∷ cs) = let h = none_refused cs in omega (arith, h)
none_refused (treated n env ∷ cs) = none_refused cs

-- a list of judgements with one that isn't kept in it refuses something
one_refused : (before after : List Judgement) (s : Site) (closing : Bool) → refused (before ++ judged_at s false closing ∷ after) ≡ 0 → ⊥
one_refused [] after s closing e = absurd (omega (arith, e))
one_refused (j ∷ before) after s closing e = one_refused before after s closing (let f = e in omega (arith, f))

closes_at : (before after : List Judgement) (s : Site) (t closing : Bool) → NoneCloses (before ++ judged_at s t closing ∷ after) → closing ≡ false
closes_at [] after s t closing h = h.0
closes_at (j ∷ before) after s t closing h = closes_at before after s t closing h.1

none_long : (rs : List Report) → length rs ≡ 0 → rs ≡ []
none_long [] e = refl
none_long (r ∷ rs) e = absurd (omega (arith, e))

-- In a text without modules nothing falls short of what was judged where all demands are kept.
kept_not_short : (env : Environment) (text : List Tree) (ch : Choice) → has_no_modules text ≡ true → {js : List Judgement} → FallsShort (judgements every_site (conditions_of env text every_site ch)) js → ⊥
kept_not_short env text ch plain f = elim f.why [
  | inl (mine, theirs) ↦ one_refused f.before f.left f.site f.closing (sym (ap refused (f.short ∙ ap (λ t. f.before ++ judged_at f.site t f.closing ∷ f.left) mine)) ∙ none_refused (conditions_of env text every_site ch))
  | inr (closing, other) ↦ no_yes (sym (closes_at f.before f.left f.site f.mine f.closing (subst NoneCloses f.short (none_closing env text every_site ch plain))) ∙ closing)
]

-- So a text without modules that has a typing was judged as one that keeps each demand, and nothing was reported.
pub text_silent : {env : Environment} (text : List Tree) {a b : Sight} {G : Letters} (p : ItemsCarried (λ ch. env) (text_asks text) a [] b G) → ((i k : ℕ) → a.types i k ≡ None) → IsSound a.nodes → has_no_modules text ≡ true → HasTyping env text every_site → b.reports ≡ a.reports
text_silent {env} text {a} {b} {G} p none sound plain (types, typing) =
    by (p.complete (identity sound.0 a.nodes) (outermost env every_site typing.choice) (enters_first {env = env} {a = a} none sound every_site typing.choice) typing.holds)
  where
    by : ContinuesItems (text_asks text) a b G p.left p.judged (identity sound.0 a.nodes) (outermost env every_site typing.choice) ⊎ FallsShort (judgements every_site (conditions_of env text every_site typing.choice)) p.judged → b.reports ≡ a.reports
    by (inr short) = absurd (kept_not_short env text typing.choice plain short)
    by (inl goes) = p.reports ∙ ap (λ rs. a.reports ++ rs) (none_long p.told (p.counted ∙ ap refused (sym goes.same) ∙ none_refused (conditions_of env text every_site typing.choice))) ∙ append-nil a.reports

-- So is a text of `let` and `;;` that can be typed.
pub typable_silent : {text : List Tree} {a b : Sight} {G : Letters} (t : AreTypable text) → ItemsCarried (λ ch. t.env) (text_asks text) a [] b G → ((i k : ℕ) → a.types i k ≡ None) → IsSound a.nodes → b.reports ≡ a.reports
typable_silent {text} t p none sound = text_silent {env = t.env} text p none sound (lets_plain text t.lets) t.typing
