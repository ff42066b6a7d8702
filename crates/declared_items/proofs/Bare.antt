-- An exception without an argument decides no type.
use Rattle.std.proofs.Common.{◌≡◌, ◌∙◌, inl, inr, ℕ, false, List, [], ◌∷◌, ◌++◌, Option, Some, None, option_map, refl, sym, ap, subst}
use Rattle.type_model.specs.Types.{Typ}
use Rattle.signature_model.specs.Records.{is_some}
use Rattle.typing_laws.proofs.Bools.{no_yes}
use Rattle.typing_model.specs.Contexts.{Context, parameters, tell}
use Rattle.typing_model.specs.Declarations.{read_optional, exception_asks}
use Rattle.typing_model.specs.Demands.{AllHold}
use Rattle.typing_model.specs.Parts.{ConstructorPart, TypeExpression}
use Rattle.typing_state.specs.declared.parts.Parts.{Parts}
use Rattle.typing_conditions.specs.Carrying.{Asks}
use Rattle.typing_conditions.specs.Frames.{Frame}
use Rattle.typing_conditions.specs.Judging.{Judgement, judgements}
use Rattle.typing_conditions.specs.Sights.{Report}
use Rattle.typing_rows.specs.Settled.{Fixes, AreFixed, Before, IsBehind, Settled}
use Rattle.declared_rows.specs.Assignments.{Assignment}
use Rattle.decl_typing.specs.Denoting.{OptionClosed}

-- no list ends with one more
never_ends : {A : Type 0} (xs : List A) (y : A) (ys : List A) → [] ≡ xs ++ y ∷ ys → ⊥
never_ends [] y ys e = absurd (cc)
never_ends (x ∷ xs) y ys e = absurd (cc)

-- Conditions that always hold, with no demand, are settled whatever types are chosen.
settled_bare : {B : Before} {asks : Asks} {judged : List Judgement} {told : List Report} {fixes : Fixes} → ((c : Context) → AllHold c.kept (asks c)) → ((c : Context) → judgements c.kept (asks c) ≡ []) → Settled B asks judged told fixes → Settled B asks judged told []
settled_bare {B} {asks} {judged} {told} {fixes} holds none s = record {
  counted = s.counted;
  sound = λ c at kept fixed. s.sound c at kept (decided c at);
  follows = λ c at fixed. s.follows c at (decided c at);
  complete = λ c at h. elim (s.complete c at h) [ inl goes ↦ inl (goes.0, tt) | inr short ↦ inr short ];
  first = s.first;
}
  where
    decided : (c : Context) → IsBehind B c → AreFixed fixes c.chosen
    decided c at = elim (s.complete c at (holds c)) [
      | inl goes ↦ goes.1
      | inr short ↦ absurd (never_ends short.before _ short.left (sym (none c) ∙ short.short))
    ]

none_there : (o : Option Typ) → is_some o ≡ false → None ≡ o
none_there None e = refl
none_there (Some t) e = absurd (no_yes (sym e))

-- what a call that closes an exception's root settles, where no type is decided if it takes no argument
pub record ClosedBare (B : Before) (k : ConstructorPart) (F : Frame) (arity : ℕ) (a b : Parts) (A : Assignment) (result : Typ) (r : ℕ) : Type 0 where
  pub closed : OptionClosed B (λ c. exception_asks c k) k.argument F arity a b A result r
  pub bare : k.argument ≡ None → closed.settled.fixes ≡ []

-- So it is of each such call.
pub closed_bare : {B : Before} {F : Frame} {arity : ℕ} {a b : Parts} {A : Assignment} {result : Typ} {r : ℕ} (k : ConstructorPart) → OptionClosed B (λ c. exception_asks c k) k.argument F arity a b A result r → ClosedBare B k F arity a b A result r
closed_bare {B} {F} {arity} {a} {b} {A} {result} {r} k z = by k.argument refl
  where
    holds : k.argument ≡ None → (c : Context) → AllHold c.kept (exception_asks c k)
    holds e c = subst (λ o. AllHold c.kept (tell k.node c ++ read_optional (record c { variables = parameters [] }) o)) (sym e) (tt, tt)

    none : k.argument ≡ None → (c : Context) → judgements c.kept (exception_asks c k) ≡ []
    none e c = ap (λ o. judgements c.kept (tell k.node c ++ read_optional (record c { variables = parameters [] }) o)) e

    by : (o : Option TypeExpression) → k.argument ≡ o → ClosedBare B k F arity a b A result r
    by (Some x) e = record { closed = z; bare = λ f. absurd (let g : Some x ≡ None = sym e ∙ f in cc) }
    by None e = record {
      closed = record {
        settled = record {
          judged = z.settled.judged;
          told = z.settled.told;
          fixes = [];
          type = z.settled.type;
          given = z.settled.given;
          reports = z.settled.reports;
          settled = settled_bare (holds e) (none e) z.settled.settled;
          gives = λ ch h. ap (option_map (λ (t : TypeExpression). ch.type_at t.node)) e ∙ none_there z.settled.type (z.settled.given ∙ ap is_some e);
        };
        numbers = z.numbers;
        before = z.before;
        to = z.to;
        noted = z.noted;
        closes = z.closes;
        sound = z.sound;
        plain = z.plain;
        level = z.level;
      };
      bare = λ f. refl;
    }
