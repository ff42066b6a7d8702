-- Two nodes that have one type by the choice are made one: nothing is asked.
use Rattle.std.proofs.Common.{◌≡◌, ◌∙◌, inl, inr, refl, sym, subst, append-nil, ℕ, []}
use Rattle.type_model.specs.Types.{Typ}
use Rattle.typing_model.specs.Contexts.{Choice}
use Rattle.type_nodes.specs.Nodes.{IsSound}
use Rattle.level_unify.specs.Solutions.{Tightens}
use Rattle.level_unify.specs.Unification.{Unified}
use Rattle.level_unify.proofs.Unified.{fits_loosely, fits_under, under_fits}
use Rattle.typing_state.specs.declared.parts.Parts.{Parts}
use Rattle.typing_state.specs.Goes.{Goes, OnlyStore}
use Rattle.typing_state.specs.Types.{Joined}
use Rattle.typing_conditions.specs.Sights.{Sight, Letters}
use Rattle.typing_conditions.specs.Frames.{Frame}
use Rattle.typing_conditions.specs.Meanings.{Means}
use Rattle.typing_conditions.specs.Judging.{judgements, StartsWith}
use Rattle.typing_conditions.specs.Steps.{OnlyNodes}
use Rattle.typing_conditions.specs.Carrying.{Scope, Carried}
use Rattle.typing_conditions.proofs.Judged.{starts_all}
use Rattle.typing_conditions.proofs.Framing.{no_bound}
use Rattle.typing_conditions.proofs.Meaning.{agrees_same}
use Rattle.typing_conditions.proofs.Equals.{unified_stays}
use Rattle.typing_conditions.proofs.Carried.{carried_refl, take_none}
use Rattle.typing_steps.specs.States.{sight}
use Rattle.typing_steps.proofs.Seeing.{only_nodes}
use Rattle.typing_conditions.proofs.Hiding.{settles_none, none_doubtful}
use Rattle.typing_conditions.proofs.Stops.{none_stop}

-- they are one from then on
pub made_one : {F : Frame} {scope : Scope} {G : Letters} {type : Choice → Typ} {m n : ℕ} {a b : Sight} → IsSound b.nodes → Means F a G type m → Means F a G type n → OnlyNodes a b → Tightens a.nodes b.nodes → Unified a.nodes b.nodes m n → Carried F scope (λ c. []) a G b G
made_one {m = m} {n = n} {a = a} {b = b} sound p q rest tight one = record {
  stays = unified_stays sound rest tight p.open_node q.open_node one;
  hidden = [];
  settled = settles_none;
  clear = λ known placed. none_doubtful;
  judged = [];
  told = [];
  reports = rest.reports ∙ sym (append-nil a.reports);
  counted = refl;
  sound = λ r V c l. record { same = refl; holds = tt; tells = refl; sees = tt; starts = refl };
  follows = λ r V c l. refl;
  complete = λ named V c e h.
      let loose = fits_loosely a.nodes V e.fits in
      let same : V m ≡ V n = sym (p.is V c.chosen loose e.agrees) ∙ q.is V c.chosen loose e.agrees in
      inl (record {
        same = refl;
        types = V;
        on = record { fits = under_fits (λ v. 0) b.nodes V (one.fits (λ v. 0) V (fits_under a.nodes V e.fits) same); before = λ i lt. refl; agrees = agrees_same a b rest.types rest.written e.inside (λ i lt. refl) e.agrees };
        hidden_too = (tt, tt);
      });
  first = λ named k V c e h. inl (subst (λ cs. StartsWith [] (judgements c.kept cs)) (sym (take_none k)) (starts_all []));
  stops = none_stop;
}

-- `join` of two such nodes
pub join_carried : (a b : Parts) {F : Frame} {scope : Scope} {G : Letters} {type : Choice → Typ} {m n : ℕ} → IsSound b.store.nodes → Means F (sight a) G type m → Means F (sight a) G type n → Joined a.store b.store m n → OnlyStore a b → Goes a b → Carried F scope (λ c. []) (sight a) G (sight b) G
join_carried a b sound p q (inl one) rest goes = made_one sound p q (only_nodes a b rest) goes.types (one (no_bound p.open_node q.open_node))
join_carried a b {F} {scope} {G} sound p q (inr (same, never)) rest goes =
    let here : b ≡ a = (λ i. record { alloc = a.alloc; store = same i; index = rest.index i; faults = rest.faults i; written = rest.written i; item = rest.item i; level = rest.level i; telling = rest.telling i; constants = rest.constants i }) in
    subst (λ s. Carried F scope (λ c. []) (sight a) G (sight s) G) (sym here) carried_refl
