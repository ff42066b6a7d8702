-- Demands whose truth the types don't decide: tests of names, and that a body closes.
use Rattle.std.proofs.Common.{◌≡◌, ◌≢◌, ◌∙◌, ◌⊎◌, inl, inr, ℕ, Bool, true, false, List, [], ◌∷◌, refl, sym, ap, subst, append-nil}
use Rattle.tree_model.specs.Trees.{Place}
use Rattle.signature_model.specs.Entries.{Environment}
use Rattle.signature_model.specs.Signatures.{Signature}
use Rattle.typing_model.specs.Demands.{Site, test, closes, Complaint, demand, AllHold}
use Rattle.typing_model.specs.Demands as complaint
use Rattle.typing_model.specs.Typings.{no_choice}
use Rattle.typing_model.specs.Contexts.{Context}
use Rattle.typing_model.specs.Messages.{complaint_text}
use Rattle.type_nodes.specs.Readings.{Types}
use Rattle.env_table.specs.declared.faults.FaultKind.{FaultKind}
use Rattle.env_table.specs.declared.faults.FaultKind.TheVariants as fault
use Rattle.typing_conditions.specs.Sights.{Sight, Letters}
use Rattle.typing_conditions.specs.Frames.{Frame}
use Rattle.typing_conditions.specs.Judging.{Judgement, FallsShort, TellBy, kind_of, judged_at}
use Rattle.typing_conditions.specs.Steps.{OnlyReports, IsTold}
use Rattle.typing_conditions.specs.Carrying.{Scope, IsUnder, Enters, Continues, Carried}
use Rattle.typing_conditions.proofs.First.{first_one}
use Rattle.typing_conditions.proofs.Equals.{reports_stay, goes_as, judged_as, falls_short, not_both}
use Rattle.typing_conditions.proofs.Hiding.{settles_none, none_doubtful}
use Rattle.typing_conditions.proofs.Stops.{none_stop, other_stop}

-- what a test is in the contexts of a scope: whether it holds, where it is reported, as which kind of fault, and in which words
pub record TestIs (scope : Scope) (complaint : Context → Complaint) (holds : Context → Bool) (at : Context → Place) (v : Bool) (place : Place) (kind : FaultKind) (message : List ℕ) : Type 0 where
  pub truth : (c : Context) → IsUnder scope c → holds c ≡ v
  pub here : (c : Context) → IsUnder scope c → at c ≡ place
  pub is_kind : (c : Context) → IsUnder scope c → kind_of (complaint c) ≡ kind
  pub says : (c : Context) → IsUnder scope c → complaint_text (complaint c) ≡ message

-- a context of a scope
abbrev pub context_in : Scope → Context
context_in scope = record { env = scope.env no_choice; variables = scope.variables; held = scope.held; kept = λ s. false; chosen = no_choice }

pub in_scope : (scope : Scope) → IsUnder scope (context_in scope)
in_scope scope = record { env = refl; variables = refl; held = refl }

-- no complaint is that two types differ
pub other_kind : (x : Complaint) → kind_of x ≡ fault.Equal → ⊥
other_kind (complaint.unbound w x) e = absurd (cc)
other_kind (complaint.arity x n m) e = absurd (cc)
other_kind complaint.no_label e = absurd (cc)
other_kind (complaint.not_mutable x) e = absurd (cc)
other_kind (complaint.incomplete x) e = absurd (cc)
other_kind (complaint.twice x) e = absurd (cc)
other_kind (complaint.one_side x) e = absurd (cc)
other_kind complaint.too_large e = absurd (cc)
other_kind (complaint.cyclic x) e = absurd (cc)
other_kind (complaint.differs x) e = absurd (cc)
other_kind complaint.no_functor e = absurd (cc)
other_kind (complaint.no_abstract_type x n) e = absurd (cc)

-- a test of names that holds or doesn't, whatever the types
unfoldable pub test_judged : {F : Frame} {scope : Scope} {G : Letters} {complaint : Context → Complaint} {holds : Context → Bool} {at : Context → Place} {kind : FaultKind} {message : List ℕ} {place : Place} {a b : Sight} (s : Site) (v : Bool) →
    TestIs scope complaint holds at v place kind message → OnlyReports a b → IsTold a b place kind message v → Carried F scope (λ c. demand s (at c) (test (complaint c) (holds c)) ∷ []) a G b G
test_judged {F} {scope} {G} {complaint} {holds} {at} {kind} {message} {place} {a} {b} s true is rest tells = record {
  stays = reports_stay rest;
  hidden = [];
  settled = settles_none;
  clear = λ known placed. none_doubtful;
  judged = judged_as s true;
  told = [];
  reports = tells ∙ sym (append-nil a.reports);
  counted = refl;
  sound = λ r V c l. record {
    same = ap (judged_as s) l.kept.0;
    holds = ((λ kept. is.truth c l.under), tt);
    tells = subst (λ t. TellBy t (at c) (test (complaint c) (holds c)) (λ later. later ≡ []) []) (sym l.kept.0) refl;
    sees = tt;
    starts = refl;
  };
  follows = λ r V c l. (refl, λ k. refl);
  complete = λ named V c e h. by V c e (c.kept s) refl;
  first = λ named. first_one (λ c. demand s (at c) (test (complaint c) (holds c))) (λ V c e h. by V c e (c.kept s) refl);
  stops = none_stop;
}
  where
    by : (V : Types) (c : Context) → Enters F scope a G V c → (t : Bool) → c.kept s ≡ t →
        Continues F (λ c. demand s (at c) (test (complaint c) (holds c)) ∷ []) a b G [] (judged_as s true) V c ⊎ FallsShort (judged_as s (c.kept s)) (judged_as s true)
    by V c e true k = inl (record { same = ap (judged_as s) k; types = V; on = goes_as rest e; hidden_too = (tt, tt) })
    by V c e false k = inr (falls_short s k)
test_judged {F} {scope} {G} {complaint} {holds} {at} {kind} {message} {place} {a} {b} s false is rest tells = record {
  stays = reports_stay rest;
  hidden = [];
  settled = settles_none;
  clear = λ known placed. none_doubtful;
  judged = judged_as s false;
  told = tells.report ∷ [];
  reports = tells.reports;
  counted = refl;
  sound = λ r V c l. record {
    same = ap (judged_as s) l.kept.0;
    holds = ((λ kept. absurd (not_both l.kept.0 kept)), tt);
    tells = subst (λ t. TellBy t (at c) (test (complaint c) (holds c)) (λ later. later ≡ []) (tells.report ∷ [])) (sym l.kept.0)
        (tells.report, [], refl, record { place = tells.place ∙ sym (is.here c l.under); kind = tells.is_kind ∙ sym (is.is_kind c l.under); message = tells.says ∙ sym (is.says c l.under) }, refl);
    sees = tt;
    starts = refl;
  };
  follows = λ r V c l. (refl, λ k. refl);
  complete = λ named V c e h. by V c e h.0 (c.kept s) refl;
  first = λ named. first_one (λ c. demand s (at c) (test (complaint c) (holds c))) (λ V c e h. by V c e h.0 (c.kept s) refl);
  stops = other_stop tells.report (λ e. other_kind (complaint (context_in scope)) (is.is_kind (context_in scope) (in_scope scope) ∙ sym tells.is_kind ∙ e));
}
  where
    by : (V : Types) (c : Context) → Enters F scope a G V c → (c.kept s ≡ true → holds c ≡ true) → (t : Bool) → c.kept s ≡ t →
        Continues F (λ c. demand s (at c) (test (complaint c) (holds c)) ∷ []) a b G [] (judged_as s false) V c ⊎ FallsShort (judged_as s (c.kept s)) (judged_as s false)
    by V c e h true k = absurd (not_both (is.truth c e.under) (h k))
    by V c e h false k = inl (record { same = ap (judged_as s) k; types = V; on = goes_as rest e; hidden_too = (tt, tt) })

-- the demand of a closing, as it is judged
abbrev pub closing_as : Site → Bool → List Judgement
closing_as s t = judged_at s t true ∷ []

same_or_not : (t v : Bool) → (t ≡ v) ⊎ (t ≢ v)
same_or_not true true = inl refl
same_or_not true false = inr (λ e. cc)
same_or_not false true = inr (λ e. cc)
same_or_not false false = inl refl

-- The demand that a body closes asks nothing of the types: it is judged and reported, and no choice decides it.
pub closing_judged : {F : Frame} {scope : Scope} {G : Letters} {env : Context → Environment} {body : Context → Signature} {a b : Sight} (s : Site) (at : Place) (message : List ℕ) (v : Bool) → OnlyReports a b → IsTold a b at fault.Closing message v →
    Carried F scope (λ c. demand s at (closes (env c) (body c)) ∷ []) a G b G
closing_judged {F} {scope} {G} {env} {body} {a} {b} s at message v rest tells = by v tells
  where
    complete : (v : Bool) (V : Types) (c : Context) → Enters F scope a G V c → AllHold c.kept (demand s at (closes (env c) (body c)) ∷ []) →
        Continues F (λ c. demand s at (closes (env c) (body c)) ∷ []) a b G [] (closing_as s v) V c ⊎ FallsShort (closing_as s (c.kept s)) (closing_as s v)
    complete v V c e h = elim (same_or_not (c.kept s) v) [
      | inl one ↦ inl (record { same = ap (closing_as s) one; types = V; on = goes_as rest e; hidden_too = (tt, tt) })
      | inr other ↦ inr (record { before = []; site = s; mine = c.kept s; theirs = v; closing = true; left = []; right = []; short = refl; full = refl; why = inr (refl, other) })
    ]

    by : (v : Bool) → IsTold a b at fault.Closing message v → Carried F scope (λ c. demand s at (closes (env c) (body c)) ∷ []) a G b G
    by true tells = record {
      stays = reports_stay rest;
      hidden = [];
      settled = settles_none;
      clear = λ known placed. none_doubtful;
      judged = closing_as s true;
      told = [];
      reports = tells ∙ sym (append-nil a.reports);
      counted = refl;
      sound = λ r V c l. record { same = ap (closing_as s) l.kept.0; holds = ((λ kept. tt), tt); tells = subst (λ t. TellBy t at (closes (env c) (body c)) (λ later. later ≡ []) []) (sym l.kept.0) refl; sees = tt; starts = refl };
      follows = λ r V c l. (refl, λ k. refl);
      complete = λ named. complete true;
      first = λ named. first_one (λ c. demand s at (closes (env c) (body c))) (complete true);
      stops = none_stop;
    }
    by false tells = record {
      stays = reports_stay rest;
      hidden = [];
      settled = settles_none;
      clear = λ known placed. none_doubtful;
      judged = closing_as s false;
      told = tells.report ∷ [];
      reports = tells.reports;
      counted = refl;
      sound = λ r V c l. record {
        same = ap (closing_as s) l.kept.0;
        holds = ((λ kept. tt), tt);
        tells = subst (λ t. TellBy t at (closes (env c) (body c)) (λ later. later ≡ []) (tells.report ∷ [])) (sym l.kept.0) (tells.report, [], refl, record { place = tells.place; kind = tells.is_kind; message = tt }, refl);
        sees = tt;
        starts = refl;
      };
      follows = λ r V c l. (refl, λ k. refl);
      complete = λ named. complete false;
      first = λ named. first_one (λ c. demand s at (closes (env c) (body c))) (complete false);
      stops = other_stop tells.report (λ e. absurd (let same : fault.Closing ≡ fault.Equal = sym tells.is_kind ∙ e in cc));
    }
