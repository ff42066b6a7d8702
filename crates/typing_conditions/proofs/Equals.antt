-- The demand that two types are one, kept or reported.
use Rattle.std.proofs.Common.{◌≡◌, ◌∙◌, ◌⊎◌, inl, inr, ℕ, zero, suc, ◌≤◌, Bool, true, false, Some, List, [], ◌∷◌, length, refl, sym, ap, subst, arith, append-nil}
use Rattle.std.specs.Prelude.{slice_get}
use Rattle.tree_model.specs.Trees.{Place}
use Rattle.type_model.specs.Types.{Typ}
use Rattle.type_model.specs.Substitutions.{apply}
use Rattle.typing_model.specs.Demands.{Site, Demand, equal, demand, AllHold}
use Rattle.typing_model.specs.Contexts.{Choice, Context}
use Rattle.type_nodes.specs.Nodes.{IsSound, Node}
use Rattle.type_nodes.specs.Readings.{Types, Fits, IsReading}
use Rattle.level_unify.specs.Solutions.{Loose, Tightens}
use Rattle.level_unify.specs.Unification.{Unified}
use Rattle.level_unify.proofs.Unified.{fits_loosely, fits_under, under_fits}
use Rattle.type_terms.specs.declared.types.NodeRef.{NodeRef}
use Rattle.env_table.specs.declared.entries.Entry.{Entry}
use Rattle.env_table.specs.declared.faults.FaultKind.TheVariants as fault
use Rattle.typing_conditions.specs.Locals.{IsOwn, Refines}
use Rattle.typing_conditions.proofs.Own.{own_of}
use Rattle.typing_conditions.proofs.Steps.{refines_unified, refines_none}
use Rattle.typing_conditions.specs.Sights.{Report, Sight, Letters}
use Rattle.typing_conditions.specs.Frames.{Frame, Reaches, IsOpen}
use Rattle.typing_conditions.specs.Seeing.{StandsFor}
use Rattle.typing_conditions.specs.Meanings.{Means}
use Rattle.typing_conditions.specs.Judging.{Judgement, FallsShort, TellBy, judged_at}
use Rattle.typing_conditions.specs.Steps.{OnlyNodes, OnlyReports, Tells}
use Rattle.typing_conditions.specs.Carrying.{Scope, Enters, SeesScope, GoesOn, Stays, Continues, ShowsBoth, Stop, AreStops, Carried}
use Rattle.typing_conditions.proofs.Stays.{agrees_before}
use Rattle.typing_conditions.proofs.Framing.{no_bound, reaches_unified, reaches_same, written_next}
use Rattle.typing_conditions.proofs.Meaning.{agrees_same, inside_longer}
use Rattle.typing_conditions.proofs.First.{first_one}
use Rattle.typing_conditions.proofs.Refusing.{never_fit}
use Rattle.typing_conditions.proofs.Hiding.{keeps_as, settles_none, none_doubtful}
use Rattle.typing_conditions.proofs.Roots.{own_reads}
use Rattle.typing_conditions.proofs.Copies.{copied_same}
use Rattle.typing_conditions.proofs.Stops.{none_stop, lasts_stays, up_to_same}

-- where at most something is reported everything stays
pub reports_stay : {F : Frame} {G : Letters} {a b : Sight} → OnlyReports a b → Stays F a G b G
reports_stay {F} {G} {a} {b} rest = record {
  longer = longer;
  loose = λ V h. subst (λ ns. Loose ns V) rest.nodes h;
  reads = λ V r. subst (λ ns. IsReading ns V) rest.nodes r;
  reaches = reaches;
  writes = written_next rest.written reaches refines;
  refines = refines;
  recorded = λ i k x e. rest.types i k ∙ e;
  keeps = keeps_as rest.noted rest.scopes rest.types;
  written = λ x n e. rest.written x ∙ e;
  given = λ V ch h. h;
  opens = copied_same G;
  inside = inside_longer a b rest.types rest.written longer;
  aloud = rest.aloud;
  item = rest.item;
  level = rest.level;
  fixed = rest.fixed;
}
  where
    longer : length a.nodes ≤ length b.nodes
    longer = let e : length b.nodes ≡ length a.nodes = ap length rest.nodes in omega arith

    reaches : Reaches F a → Reaches F b
    reaches = reaches_same rest.nodes rest.level (λ x n e. rest.written x ∙ e)

    refines : Reaches F a → (K : Types) → IsOwn b.nodes K → Refines a.nodes b.nodes K
    refines r K own = subst (λ ns. Refines ns b.nodes K) rest.nodes (refines_none b.nodes K own)

-- types that fit go on as they are
pub goes_as : {F : Frame} {scope : Scope} {G : Letters} {V : Types} {c : Context} {a b : Sight} → OnlyReports a b → Enters F scope a G V c → GoesOn F a b G V V c.chosen
goes_as {V = V} {a = a} {b = b} rest e = record { fits = subst (λ ns. Fits ns V) (sym rest.nodes) e.fits; before = λ k lt. refl; agrees = agrees_same a b rest.types rest.written e.inside (λ k lt. refl) e.agrees }

-- nodes that were made one have one type, whatever the scopes
pub loose_one : (old new : List Node) (m n : ℕ) → IsSound new → Unified old new m n → (V : Types) → Loose new V → V m ≡ V n
loose_one old new m n sound one V loose = let (K, own) = own_of new sound in own.comes V loose m ∙ ap (apply V) (one.read K (own_reads new K own)).1 ∙ sym (own.comes V loose n)

-- two open nodes were made one
pub unified_stays : {F : Frame} {G : Letters} {a b : Sight} {m n : ℕ} → IsSound b.nodes → OnlyNodes a b → Tightens a.nodes b.nodes → IsOpen F a m → IsOpen F a n → Unified a.nodes b.nodes m n → Stays F a G b G
unified_stays {F} {G} {a} {b} {m} {n} sound rest tight p q one = record {
  longer = longer;
  loose = tight.types;
  reads = λ V r. (one.read V r).0;
  reaches = reaches;
  writes = written_next rest.written reaches refines;
  refines = refines;
  recorded = λ i k x e. rest.types i k ∙ e;
  keeps = keeps_as rest.noted rest.scopes rest.types;
  written = λ x k e. rest.written x ∙ e;
  given = λ V ch h. h;
  opens = copied_same G;
  inside = inside_longer a b rest.types rest.written longer;
  aloud = rest.aloud;
  item = rest.item;
  level = rest.level;
  fixed = rest.fixed;
}
  where
    longer : length a.nodes ≤ length b.nodes
    longer = let e = one.len in omega arith

    reaches : Reaches F a → Reaches F b
    reaches r = reaches_unified sound rest tight one p q

    refines : Reaches F a → (K : Types) → IsOwn b.nodes K → Refines a.nodes b.nodes K
    refines r K own = let before = own_of a.nodes r.sound in refines_unified a.nodes b.nodes before.0 K m n F.level before.1 own one (no_bound p q) tight.types

-- one demand that isn't that of a closing, as it is judged
abbrev pub judged_as : Site → Bool → List Judgement
judged_as s t = judged_at s t false ∷ []

-- it isn't kept where it was: it falls short
pub falls_short : {t : Bool} (s : Site) → t ≡ false → FallsShort (judged_as s t) (judged_as s true)
falls_short s e = record { before = []; site = s; mine = false; theirs = true; closing = false; why = inl (refl, refl); left = []; right = []; short = ap (judged_as s) e; full = refl }

-- true is not false
pub not_both : {t : Bool} → t ≡ false → t ≡ true → ⊥
not_both e f = absurd (let g : false ≡ true = sym e ∙ f in cc)

-- the demand that two types are one is kept
unfoldable pub equal_kept : {F : Frame} {scope : Scope} {G : Letters} {found wanted : Choice → Typ} {m n : ℕ} {a b : Sight} (s : Site) (at : Place) → IsSound b.nodes → Means F a G found m → Means F a G wanted n →
    OnlyNodes a b → Tightens a.nodes b.nodes → Unified a.nodes b.nodes m n → Carried F scope (λ c. demand s at (equal (found c.chosen) (wanted c.chosen)) ∷ []) a G b G
equal_kept {F} {scope} {G} {found} {wanted} {m} {n} {a} {b} s at sound p q rest tight one = record {
  stays = stays;
  hidden = [];
  settled = settles_none;
  clear = λ known placed. none_doubtful;
  judged = judged_as s true;
  told = [];
  reports = rest.reports ∙ sym (append-nil a.reports);
  counted = refl;
  sound = λ r V c l.
      let old = one.read V l.reads in
      let g = agrees_before stays l.agrees in
      let loose = fits_loosely a.nodes V old.0.fits in
      record {
        same = ap (judged_as s) l.kept.0;
        holds = ((λ kept. p.is V c.chosen loose g ∙ old.1 ∙ sym (q.is V c.chosen loose g)), tt);
        tells = subst (λ t. TellBy t at (equal (found c.chosen) (wanted c.chosen)) (λ later. later ≡ []) []) (sym l.kept.0) refl;
        sees = tt;
        starts = refl;
      };
  follows = λ r V c l. (refl, λ k. refl);
  complete = λ named. complete;
  first = λ named. first_one (λ c. demand s at (equal (found c.chosen) (wanted c.chosen))) complete;
  stops = none_stop;
}
  where
    stays : Stays F a G b G
    stays = unified_stays sound rest tight p.open_node q.open_node one

    by : (V : Types) (c : Context) → Enters F scope a G V c → (c.kept s ≡ true → found c.chosen ≡ wanted c.chosen) → (t : Bool) → c.kept s ≡ t →
        Continues F (λ c. demand s at (equal (found c.chosen) (wanted c.chosen)) ∷ []) a b G [] (judged_as s true) V c ⊎ FallsShort (judged_as s (c.kept s)) (judged_as s true)
    by V c e h true k =
        let loose = fits_loosely a.nodes V e.fits in
        let same : V m ≡ V n = sym (p.is V c.chosen loose e.agrees) ∙ h k ∙ q.is V c.chosen loose e.agrees in
        inl (record {
          same = ap (judged_as s) k;
          types = V;
          on = record {
            fits = under_fits (λ v. 0) b.nodes V (one.fits (λ v. 0) V (fits_under a.nodes V e.fits) same);
            before = λ i lt. refl;
            agrees = agrees_same a b rest.types rest.written e.inside (λ i lt. refl) e.agrees;
          };
          hidden_too = (tt, tt);
        })
    by V c e h false k = inr (falls_short s k)

    complete : (V : Types) (c : Context) → Enters F scope a G V c → AllHold c.kept (demand s at (equal (found c.chosen) (wanted c.chosen)) ∷ []) →
        Continues F (λ c. demand s at (equal (found c.chosen) (wanted c.chosen)) ∷ []) a b G [] (judged_as s true) V c ⊎ FallsShort (judged_as s (c.kept s)) (judged_as s true)
    complete V c e h = by V c e h.0 (c.kept s) refl

-- the demand that two types are one isn't kept
unfoldable pub equal_told : {F : Frame} {scope : Scope} {G : Letters} {found wanted : Choice → Typ} {x y : NodeRef} {a b : Sight} {env : List Entry} {message : List ℕ} (s : Site) (at : Place) → scope.own s.node ≡ true → SeesScope F scope a G env → Means F a G found x.0 → Means F a G wanted y.0 →
    OnlyReports a b → Tells a b at fault.Equal message → ShowsBoth a.nodes env x y message → Carried F scope (λ c. demand s at (equal (found c.chosen) (wanted c.chosen)) ∷ []) a G b G
equal_told {F} {scope} {G} {found} {wanted} {x} {y} {a} {b} {env} s at own sees p q rest tells shows = record {
  stays = reports_stay rest;
  hidden = [];
  settled = settles_none;
  clear = λ known placed. none_doubtful;
  judged = judged_as s false;
  told = tells.report ∷ [];
  reports = tells.reports;
  counted = refl;
  sound = λ r V c l. record {
    same = ap (judged_as s) l.kept.0;
    holds = ((λ kept. absurd (not_both l.kept.0 kept)), tt);
    tells = subst (λ t. TellBy t at (equal (found c.chosen) (wanted c.chosen)) (λ later. later ≡ []) (tells.report ∷ [])) (sym l.kept.0) (tells.report, [], refl, record { place = tells.place; kind = tells.is_kind; message = tt }, refl);
    sees = tt;
    starts = refl;
  };
  follows = λ r V c l. (refl, λ k. refl);
  complete = λ named. complete;
  first = λ named. first_one (λ c. demand s at (equal (found c.chosen) (wanted c.chosen))) complete;
  stops = stops;
}
  where
    -- the demand is the one that is asked
    asked : (k : ℕ) (t : Site) (place : Place) (d : Demand) {e : Demand} → slice_get (demand s at e ∷ []) k ≡ Some (demand t place d) → d ≡ e
    asked zero t place d e = cc
    asked (suc k) t place d e = absurd (cc)

    -- the state before is where it is reported, and nothing is asked up to there
    stop : (r : Report) → r.at ≡ at → r.message ≡ tells.report.message → Stop F scope (λ c. demand s at (equal (found c.chosen) (wanted c.chosen)) ∷ []) a G b G (judged_as s false) 0 r
    stop r place same = record {
      state = a;
      letters = G;
      found = x;
      wanted = y;
      names = env;
      site = s;
      before = 0;
      judged_so = refl;
      counts = refl;
      shows = record { left = shows.left; right = shows.right; clash = shows.clash; clashes = shows.clashes; first = shows.first; second = shows.second; texts = shows.texts; says = same ∙ tells.says ∙ shows.says };
      unbound = no_bound p.open_node q.open_node;
      up_to = up_to_same a G;
      lasts = lasts_stays [] [] (reports_stay {F = F} {G = G} rest);
      enters = λ named V c e kept k t place d h.
          let loose = fits_loosely a.nodes V e.fits in
          record { types = V; fits = e.fits; before = λ n lt. refl; agrees = e.agrees; nodes = e.inside.given; asks = asked k t place d h.here ∙ (λ i. equal (p.is V c.chosen loose e.agrees i) (q.is V c.chosen loose e.agrees i)) };
      reads = λ reached V c l.
          let loose = fits_loosely a.nodes V l.reads.fits in
          record {
            place = 0;
            stops = record {
              here = (λ i. Some (demand s (sym place i) (equal (p.is V c.chosen loose l.agrees i) (q.is V c.chosen loose l.agrees i))));
              refused = l.kept.0;
              counted = refl;
              holds = tt;
            };
            env = c.env;
            around = inr (own, refl);
            stands = subst (StandsFor V env) (sym l.under.env) (sees V c.chosen l.reads l.agrees l.named l.unbound);
          };
    }

    stops : AreStops F scope (λ c. demand s at (equal (found c.chosen) (wanted c.chosen)) ∷ []) a G b G (judged_as s false) (tells.report ∷ [])
    stops zero r e kind = let one : tells.report ≡ r = cc in stop r (ap (λ (z : Report). z.at) (sym one) ∙ tells.place) (ap (λ (z : Report). z.message) (sym one))
    stops (suc k) r e kind = absurd (cc)

    by : (V : Types) (c : Context) → Enters F scope a G V c → (c.kept s ≡ true → found c.chosen ≡ wanted c.chosen) → (t : Bool) → c.kept s ≡ t →
        Continues F (λ c. demand s at (equal (found c.chosen) (wanted c.chosen)) ∷ []) a b G [] (judged_as s false) V c ⊎ FallsShort (judged_as s (c.kept s)) (judged_as s false)
    by V c e h true k =
        let loose = fits_loosely a.nodes V e.fits in
        let none_left = no_bound p.open_node p.open_node in
        let none_right = no_bound q.open_node q.open_node in
        absurd (never_fit a.nodes x.0 y.0 p.open_node.reached.sound p.open_node.inside q.open_node.inside none_left none_right shows.clashes.never V e.fits (sym (p.is V c.chosen loose e.agrees) ∙ h k ∙ q.is V c.chosen loose e.agrees))
    by V c e h false k = inl (record { same = ap (judged_as s) k; types = V; on = goes_as rest e; hidden_too = (tt, tt) })

    complete : (V : Types) (c : Context) → Enters F scope a G V c → AllHold c.kept (demand s at (equal (found c.chosen) (wanted c.chosen)) ∷ []) →
        Continues F (λ c. demand s at (equal (found c.chosen) (wanted c.chosen)) ∷ []) a b G [] (judged_as s false) V c ⊎ FallsShort (judged_as s (c.kept s)) (judged_as s false)
    complete V c e h = by V c e h.0 (c.kept s) refl
