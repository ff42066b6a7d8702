-- Calls after which nothing is asked: what they change no condition sees.
use Rattle.std.proofs.Common.{◌≡◌, ◌∙◌, inl, ℕ, Bool, true, false, ◌&&◌, ◌==◌, if◌then◌else◌, List, [], ◌∷◌, take, Some, None, refl, sym, ap, subst, append-nil}
use Rattle.std.specs.Prelude.{option_map}
use Rattle.std.proofs.lemmas.Bool.{eqb-true}
use Rattle.text_terms.specs.declared.Span.{Span}
use Rattle.typing_laws.proofs.Bools.{and_cases}
use Rattle.typing_model.specs.Demands.{treated, AllHold}
use Rattle.typing_model.specs.Contexts.{Context}
use Rattle.type_terms.specs.declared.types.NodeRef.{NodeRef}
use Rattle.type_nodes.specs.States.{State}
use Rattle.env_table.specs.declared.entries.Entry.{Entry}
use Rattle.env_table.specs.declared.faults.FaultKind.{FaultKind}
use Rattle.env_table.specs.declared.seen.Seen.{Seen}
use Rattle.typed_index.specs.Seen.{seen_at}
use Rattle.typing_state.specs.declared.parts.Telling.{Telling}
use Rattle.typing_state.specs.declared.parts.Telling.TheVariants.{Aloud, Quiet}
use Rattle.typing_state.specs.declared.parts.Parts.{Parts}
use Rattle.typing_state.specs.declared.demands.Verdict.{Verdict}
use Rattle.typing_state.specs.declared.demands.Verdict.TheVariants.{Kept, Reported}
use Rattle.typing_state.specs.Goes.{faults_of, OnlyIndex, OnlyStoreAndFaults, Goes, Told}
use Rattle.typing_state.specs.Notes.{NotedFirst, Noted, NotedNameless}
use Rattle.typing_state.specs.Demands.{EqualIs}
use Rattle.typing_conditions.specs.Sights.{AreScopesIn, Sight, number_in, Letters}
use Rattle.typing_conditions.specs.Seeing.{IsSeen}
use Rattle.typing_conditions.specs.Hiding.{NotesRow}
use Rattle.typing_conditions.specs.Frames.{Frame, IsOpen}
use Rattle.typing_conditions.specs.Judging.{judgements, StartsWith, TellAll, treats_none}
use Rattle.typing_conditions.specs.Steps.{OnlyReports}
use Rattle.typing_conditions.specs.Carrying.{Asks, Scope, SeesScope, Stays, Carried}
use Rattle.typing_conditions.proofs.Judged.{seen_none, start_none, follows_silent}
use Rattle.typing_conditions.proofs.Recording.{told_at}
use Rattle.typing_conditions.proofs.Carried.{take_none}
use Rattle.typing_conditions.proofs.First.{starts_none}
use Rattle.typing_conditions.proofs.Framing.{no_bound}
use Rattle.typing_conditions.proofs.Equals.{reports_stay, goes_as, unified_stays}
use Rattle.typing_steps.specs.States.{type_in, is_noted, is_aloud, reports_of, written_in, fixed_of, sight}
use Rattle.typing_steps.specs.Warning.{OnlyNotes}
use Rattle.typing_steps.proofs.Seeing.{same_state, nodes_of_both, reports_of_both}
use Rattle.typing_steps.proofs.Recording.{noted_still, noted_now, scopes_still, noted_scope}
use Rattle.typing_conditions.proofs.Hiding.{keeps_as, settles_none, none_doubtful}
use Rattle.typing_conditions.proofs.Stops.{none_stop}

-- conditions that hold in any case, of which none is a demand, and that say of no node that it is treated
pub record IsIdle (asks : Asks) : Type 0 where
  pub holds : (c : Context) → AllHold c.kept (asks c)
  pub silent : (c : Context) → judgements c.kept (asks c) ≡ []
  pub silent_first : (k : ℕ) (c : Context) → judgements c.kept (take k (asks c)) ≡ []
  pub reports_none : (c : Context) → TellAll c.kept (asks c) []
  pub treats : (c : Context) → treats_none (asks c) ≡ true

-- they are carried where nothing changes
pub carried_idle : {F : Frame} {scope : Scope} {asks : Asks} {a b : Sight} {G : Letters} → IsIdle asks → OnlyReports a b → b.reports ≡ a.reports → Carried F scope asks a G b G
carried_idle {F} {scope} {asks} {a} {b} {G} idle rest same = record {
  stays = reports_stay rest;
  hidden = [];
  settled = settles_none;
  clear = λ known placed. none_doubtful;
  judged = [];
  told = [];
  reports = same ∙ sym (append-nil a.reports);
  counted = refl;
  sound = λ r V c l. record { same = idle.silent c; holds = idle.holds c; tells = idle.reports_none c; sees = seen_none (IsSeen l.scopes l.types V) (asks c) (idle.treats c); starts = start_none (asks c) (idle.treats c) };
  follows = λ r V c l. follows_silent c.kept (asks c) (idle.silent c);
  complete = λ named V c e h. inl (record { same = idle.silent c; types = V; on = goes_as rest e; hidden_too = (tt, tt) });
  first = λ named k V c e h. inl (subst (StartsWith []) (sym (idle.silent_first k c)) (starts_none []));
  stops = none_stop;
}

-- and nothing is hidden
pub idle_hides : (F : Frame) (scope : Scope) (G : Letters) {asks : Asks} {a b : Sight} (idle : IsIdle asks) (rest : OnlyReports a b) (same : b.reports ≡ a.reports) → (carried_idle {F = F} {scope = scope} {G = G} idle rest same).hidden ≡ []
unfolding carried_idle
idle_hides F scope G idle rest same = refl

-- where nothing is asked
pub none_idle : IsIdle (λ c. [])
none_idle = record { holds = λ c. tt; silent = λ c. refl; silent_first = λ k c. ap (judgements c.kept) (take_none k); reports_none = λ c. refl; treats = λ c. refl }

-- where the state is as before nothing is asked
pub state_still : (a b : Parts) {F : Frame} {scope : Scope} {G : Letters} → b ≡ a → Carried F scope (λ c. []) (sight a) G (sight b) G
state_still a b e = carried_idle none_idle (same_state a b e) (ap (λ p. (sight p).reports) e)

-- what is noted without a type leaves the recorded types as they were
untyped_as : (a b : Parts) (number : ℕ) (seen : Seen) → seen.ty ≡ None → NotedFirst a b number seen → (i p : ℕ) → type_in (seen_at b.index i p) ≡ type_in (seen_at a.index i p)
untyped_as a b number seen none noted i p = ap type_in (noted.after i p) ∙ at (a.item == i && number == p) refl
  where
    at : (t : Bool) → (a.item == i && number == p) ≡ t → type_in (if t then Some seen else seen_at a.index i p) ≡ type_in (seen_at a.index i p)
    at true f =
        let both = and_cases (a.item == i) (number == p) f in
        let here : seen_at a.index i p ≡ None = (λ k. seen_at a.index (sym (eqb-true a.item i both.0) k) (sym (eqb-true number p both.1) k)) ∙ noted.before in
        ap (option_map (λ (m : NodeRef). m.0)) none ∙ sym (ap type_in here)
    at false f = refl

-- `note` without a type, where faults are reported or not
pub untyped_noted : (a b : Parts) (number : ℕ) (seen : Seen) → seen.ty ≡ None → Noted a.telling a b number seen → OnlyIndex a b → OnlyReports (sight a) (sight b)
untyped_noted a b number seen none noted rest = record {
  nodes = ap (λ (s : State). s.nodes) rest.store;
  types = by a.telling noted;
  noted = still a.telling noted;
  scopes = scopes_on a.telling noted;
  written = λ x. ap (λ w. written_in w x) rest.written;
  aloud = ap is_aloud rest.telling;
  item = rest.item;
  level = rest.level;
  fixed = ap fixed_of rest.constants;
}
  where
    by : (t : Telling) → Noted t a b number seen → (i p : ℕ) → type_in (seen_at b.index i p) ≡ type_in (seen_at a.index i p)
    by Quiet h i p = ap (λ x. type_in (seen_at x i p)) h
    by Aloud h i p = untyped_as a b number seen none h i p

    still : (t : Telling) → Noted t a b number seen → (i p : ℕ) → is_noted (seen_at a.index i p) ≡ true → is_noted (seen_at b.index i p) ≡ true
    still Quiet h i p k = ap (λ x. is_noted (seen_at x i p)) h ∙ k
    still Aloud h i p k = noted_still a b number seen h i p k

    scopes_on : (t : Telling) → Noted t a b number seen → AreScopesIn (sight a).scopes (sight b).scopes
    scopes_on Quiet h i p env k = ap (λ x. option_map (λ (s : Seen). s.env) (seen_at x i p)) h ∙ k
    scopes_on Aloud h i p env k = scopes_still a b number seen h i p env k

-- so the row of a node is noted without a type
pub untyped_row : (a b : Parts) (n m number : ℕ) (seen : Seen) → seen.ty ≡ None → is_aloud a.telling ≡ true → Noted a.telling a b number seen → OnlyIndex a b → number_in a.item number ≡ n → NotesRow (sight a) (sight b) n m
untyped_row a b n m number seen none aloud noted rest is = by a.telling aloud noted
  where
    by : (t : Telling) → is_aloud t ≡ true → Noted t a b number seen → NotesRow (sight a) (sight b) n m
    by Quiet e h = absurd (cc)
    by Aloud e h = record {
      place = number;
      number = sym is;
      keeps = keeps_as (noted_still a b number seen h) (scopes_still a b number seen h) (untyped_as a b number seen none h);
      none = ap is_noted h.before;
      untyped = ap type_in h.before;
      now = noted_now a b number seen h;
      only = λ k e. absurd (let f : None ≡ Some k = sym (untyped_as a b number seen none h a.item number ∙ ap type_in h.before) ∙ e in cc);
    }

-- `note_plain`: it is recorded in which environment a node is treated, whose names stand for those of the scope
pub plain_noted : (a b : Parts) {F : Frame} {scope : Scope} {G : Letters} (number : ℕ) (env : List Entry) (n : ℕ) → number_in a.item number ≡ n → is_aloud a.telling ≡ true → NotedNameless a b number env None → OnlyIndex a b → SeesScope F scope (sight a) G env →
    Carried F scope (λ c. treated n c.env ∷ []) (sight a) G (sight b) G
plain_noted a b number env n place aloud (names, none, noted) rest sees =
    let seen : Seen = record { env = env; ty = None; names = names } in
    told_at n (sym place) (carried_idle none_idle (untyped_noted a b number seen refl noted rest) (ap (λ f. (sight (record a { faults = f })).reports) rest.faults)) (noted_scope a b number seen aloud noted) sees

-- nothing is recorded
pub notes_none : (a : Parts) → OnlyNotes a a
notes_none a = record { rest = record { store = refl; faults = refl; written = refl; item = refl; level = refl; telling = refl; constants = refl }; types = λ i p. refl; noted = λ i p h. h; scopes = λ i p env h. h }

-- one record after another
pub notes_more : (a b d : Parts) → OnlyNotes a b → OnlyNotes b d → OnlyNotes a d
notes_more a b d p q = record {
  rest = record {
    store = q.rest.store ∙ p.rest.store;
    faults = q.rest.faults ∙ p.rest.faults;
    written = q.rest.written ∙ p.rest.written;
    item = q.rest.item ∙ p.rest.item;
    level = q.rest.level ∙ p.rest.level;
    telling = q.rest.telling ∙ p.rest.telling;
    constants = q.rest.constants ∙ p.rest.constants;
  };
  types = λ i k. q.types i k ∙ p.types i k;
  noted = λ i k h. q.noted i k (p.noted i k h);
  scopes = λ i k env h. q.scopes i k env (p.scopes i k env h);
}

-- what `note_plain` records
pub plain_notes : (a b : Parts) (number : ℕ) (env : List Entry) → NotedNameless a b number env None → OnlyIndex a b → OnlyNotes a b
plain_notes a b number env (names, none, noted) rest = let only = untyped_noted a b number (record { env = env; ty = None; names = names }) refl noted rest in record { rest = rest; types = only.types; noted = only.noted; scopes = only.scopes }

-- no condition sees what is recorded without a type
pub notes_unseen : (a b : Parts) → OnlyNotes a b → OnlyReports (sight a) (sight b)
notes_unseen a b h = record {
  nodes = ap (λ (s : State). s.nodes) h.rest.store;
  types = h.types;
  noted = h.noted;
  scopes = h.scopes;
  written = λ x. ap (λ w. written_in w x) h.rest.written;
  aloud = ap is_aloud h.rest.telling;
  item = h.rest.item;
  level = h.rest.level;
  fixed = ap fixed_of h.rest.constants;
}

-- and nothing is reported
pub notes_untold : (a b : Parts) → OnlyNotes a b → (sight b).reports ≡ (sight a).reports
notes_untold a b h = ap (λ f. (sight (record a { faults = f })).reports) h.rest.faults

-- Where faults aren't reported, what is noted, with a type or not, is not recorded.
pub quiet_noted : (a b : Parts) (number : ℕ) (seen : Seen) → is_aloud a.telling ≡ false → Noted a.telling a b number seen → OnlyIndex a b → OnlyReports (sight a) (sight b)
quiet_noted a b number seen quiet noted rest = record {
  nodes = ap (λ (s : State). s.nodes) rest.store;
  types = by a.telling quiet noted;
  noted = still a.telling quiet noted;
  scopes = scopes_on a.telling quiet noted;
  written = λ x. ap (λ w. written_in w x) rest.written;
  aloud = ap is_aloud rest.telling;
  item = rest.item;
  level = rest.level;
  fixed = ap fixed_of rest.constants;
}
  where
    by : (t : Telling) → is_aloud t ≡ false → Noted t a b number seen → (i p : ℕ) → type_in (seen_at b.index i p) ≡ type_in (seen_at a.index i p)
    by Quiet e h i p = ap (λ x. type_in (seen_at x i p)) h
    by Aloud e h i p = absurd (cc)

    still : (t : Telling) → is_aloud t ≡ false → Noted t a b number seen → (i p : ℕ) → is_noted (seen_at a.index i p) ≡ true → is_noted (seen_at b.index i p) ≡ true
    still Quiet e h i p k = ap (λ x. is_noted (seen_at x i p)) h ∙ k
    still Aloud e h i p k = absurd (cc)

    scopes_on : (t : Telling) → is_aloud t ≡ false → Noted t a b number seen → AreScopesIn (sight a).scopes (sight b).scopes
    scopes_on Quiet e h i p env k = ap (λ x. option_map (λ (s : Seen). s.env) (seen_at x i p)) h ∙ k
    scopes_on Aloud e h i p env k = absurd (cc)

-- there a fault is no report
pub quiet_told : (a b : Parts) (at : Span) (kind : FaultKind) (message : List ℕ) → is_aloud a.telling ≡ false → Told a.telling (faults_of a) (faults_of b) at kind message → (sight b).reports ≡ (sight a).reports
quiet_told a b at kind message quiet told = by a.telling quiet told
  where
    by : (t : Telling) → is_aloud t ≡ false → Told t (faults_of a) (faults_of b) at kind message → reports_of (faults_of b) ≡ reports_of (faults_of a)
    by Quiet e h = ap reports_of h
    by Aloud e h = absurd (cc)

-- and two types that are compared stay, whatever comes of it
pub quiet_equal : (a b : Parts) {F : Frame} {G : Letters} (at : Span) {found wanted : NodeRef} (env : List Entry) (v : Verdict) → IsOpen F (sight a) found.0 → IsOpen F (sight a) wanted.0 →
    EqualIs v a b at found wanted env → OnlyStoreAndFaults a b → Goes a b → Stays F (sight a) G (sight b) G
quiet_equal a b at env Kept p q is rest goes = unified_stays is.sound (nodes_of_both a b rest is.faults) goes.types p q (is.one p.inside q.inside (no_bound p q))
quiet_equal a b at env Reported p q is rest goes = reports_stay (reports_of_both a b rest is.store)
