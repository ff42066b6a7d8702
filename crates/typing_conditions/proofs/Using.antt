-- The use of a name: an instance of the scheme that the code finds is a use of the one that the definitions find.
use Rattle.std.proofs.Common.{false, ◌≡◌, ◌∙◌, inl, ℕ, zero, suc, Bool, List, [], ◌∷◌, take, Option, Some, None, refl, sym, ap, subst, append-nil}
use Rattle.type_model.specs.Types.{Typ}
use Rattle.type_model.specs.Schemes.{Scheme}
use Rattle.signature_model.specs.Declarations.{Name}
use Rattle.signature_model.specs.Entries.{Environment, value_kind}
use Rattle.signature_model.specs.Lookups.{an_entry, lookup, lookup_by}
use Rattle.typing_model.specs.Demands.{Site, IsUse, Condition, instance, AllHold}
use Rattle.typing_model.specs.Contexts.{Context}
use Rattle.typing_model.specs.Names.{referent_of, then_by, scheme_in}
use Rattle.type_terms.specs.declared.types.NodeRef.{NodeRef}
use Rattle.type_nodes.specs.Nodes.{IsSound}
use Rattle.type_nodes.specs.Readings.{Types}
use Rattle.level_unify.specs.Instances.{Instantiated}
use Rattle.level_unify.proofs.Unified.{fits_loosely}
use Rattle.env_table.specs.declared.entries.Entry.{Entry}
use Rattle.env_table.specs.declared.entries.What.TheVariants as what
use Rattle.env_table.specs.Views.{is_named, inside}
use Rattle.typing_conditions.specs.Locals.{IsOwn, Refines}
use Rattle.typing_conditions.specs.Assumptions.{SchemeFits, SchemeReads}
use Rattle.typing_conditions.specs.Standing.{IsIn}
use Rattle.typing_conditions.proofs.Own.{own_of}
use Rattle.typing_conditions.proofs.Steps.{refines_made}
use Rattle.typing_conditions.proofs.Uses.{use_sound, use_complete}
use Rattle.typing_conditions.proofs.Names.{finds_scheme}
use Rattle.typing_conditions.specs.Sights.{Sight, Key, value_of, Letters, IsKnownFor}
use Rattle.typing_conditions.specs.Frames.{Frame, Reaches, IsOpen, IsRoot}
use Rattle.typing_conditions.specs.Seeing.{IsSeen}
use Rattle.typing_conditions.specs.Judging.{judgements, StartsWith, TellAll, starts_known, AllSeen}
use Rattle.typing_conditions.specs.Steps.{OnlyNodes}
use Rattle.typing_conditions.specs.Carrying.{Scope, HoldsWritten, Enters, ReadsOff, Stays, Continues, CarriedTo}
use Rattle.typing_conditions.specs.Surroundings.{Declared, Surrounds}
use Rattle.typing_conditions.proofs.Judged.{follows_silent}
use Rattle.typing_conditions.proofs.Stays.{agrees_before, named_before, bounds_before}
use Rattle.typing_conditions.proofs.Framing.{open_instance, written_next}
use Rattle.typing_conditions.proofs.Carried.{take_none}
use Rattle.typing_conditions.proofs.First.{starts_none}
use Rattle.typing_conditions.proofs.Making.{loose_before, reading_before}
use Rattle.typing_conditions.proofs.Meaning.{agrees_same, inside_longer}
use Rattle.typing_conditions.proofs.Hiding.{keeps_as, settles_none, none_doubtful}
use Rattle.typing_conditions.proofs.Copies.{copied_more}
use Rattle.typing_conditions.proofs.Stops.{none_stop}

-- the scheme of the value that a path finds, if it finds one
abbrev pub scheme_found : Environment → List Name → Name → Option Scheme
scheme_found env ms x = then_by (referent_of (lookup env ms value_kind x)) scheme_in

-- a type is an instance of a scheme, if there is one
abbrev pub used_if : Option Scheme → Typ → List Condition
used_if o t = elim o [ None ↦ [] | Some s ↦ instance s t ∷ [] ]

used_holds : (kept : Site → Bool) (o : Option Scheme) (sc : Scheme) (t : Typ) → o ≡ Some sc → IsUse sc t → AllHold kept (used_if o t)
used_holds kept o sc t e h = subst (λ p. AllHold kept (used_if p t)) (sym e) (h, tt)

used_asks : (kept : Site → Bool) (o : Option Scheme) (sc : Scheme) (t : Typ) → o ≡ Some sc → AllHold kept (used_if o t) → IsUse sc t
used_asks kept o sc t e h = let held : AllHold kept (instance sc t ∷ []) = subst (λ p. AllHold kept (used_if p t)) e h in held.0

used_silent : (kept : Site → Bool) (o : Option Scheme) (t : Typ) → judgements kept (used_if o t) ≡ []
used_silent kept None t = refl
used_silent kept (Some s) t = refl

-- it says of no node that it is treated
used_seen : (S : ℕ → Environment → Bool → Type 0) (o : Option Scheme) (t : Typ) → AllSeen S (used_if o t)
used_seen S None t = tt
used_seen S (Some s) t = tt

used_starts : (o : Option Scheme) (t : Typ) → starts_known (used_if o t) ≡ false
used_starts None t = refl
used_starts (Some s) t = refl

used_silent_first : (kept : Site → Bool) (k : ℕ) (o : Option Scheme) (t : Typ) → judgements kept (take k (used_if o t)) ≡ []
used_silent_first kept zero o t = refl
used_silent_first kept (suc k) None t = refl
used_silent_first kept (suc k) (Some s) t = ap (judgements kept) (take_none k)

used_tells : (kept : Site → Bool) (o : Option Scheme) (t : Typ) → TellAll kept (used_if o t) []
used_tells kept None t = refl
used_tells kept (Some s) t = refl

-- what the calls for the use of a name did: the path finds an entry with a root, and m is an instance of it
pub record TakesInstance (env : List Entry) (a b : Sight) (ms : List Name) (x : Name) (level m : ℕ) : Type 0 where
  pub entry : Entry
  pub root : NodeRef
  pub finds : lookup_by is_named inside env ms value_kind x ≡ an_entry entry
  pub is : entry.what ≡ what.Scheme root
  pub sound : IsSound b.nodes
  pub taken : Instantiated a.nodes b.nodes root.0 level m
  pub rest : OnlyNodes a b

-- The use of a name has the type that the choice has for a letter.
pub name_used : {D : Declared} {F : Frame} {scope : Scope} {G : Letters} {env : List Entry} {a b : Sight} {ms : List Name} {x : Name} {m : ℕ} (key : Key) → ((t : Typ) → IsKnownFor key t) → Surrounds D F a G env scope → TakesInstance env a b ms x F.level m →
    CarriedTo F scope (λ c. used_if (scheme_found c.env ms x) (value_of c.chosen key)) a G b ((key, m) ∷ G) (λ ch. value_of ch key) m
name_used {D} {F} {scope} {G} {env} {a} {b} {ms} {x} {m} key free at it = record {
  carried = record {
    stays = stays;
    hidden = [];
    settled = settles_none;
    clear = λ known placed. none_doubtful;
    judged = [];
    told = [];
    reports = it.rest.reports ∙ sym (append-nil a.reports);
    counted = refl;
    sound = λ r V c l. record {
      same = used_silent c.kept (scheme_found c.env ms x) (value_of c.chosen key);
      holds = sound V c l;
      tells = used_tells c.kept (scheme_found c.env ms x) (value_of c.chosen key);
      sees = used_seen (IsSeen l.scopes l.types V) (scheme_found c.env ms x) (value_of c.chosen key);
      starts = used_starts (scheme_found c.env ms x) (value_of c.chosen key);
    };
    follows = λ r V c l. follows_silent c.kept (used_if (scheme_found c.env ms x) (value_of c.chosen key)) (used_silent c.kept (scheme_found c.env ms x) (value_of c.chosen key));
    complete = λ named V c e h. inl (complete named V c e h);
    first = λ named k V c e h. inl (subst (StartsWith []) (sym (used_silent_first c.kept k (scheme_found c.env ms x) (value_of c.chosen key))) (starts_none []));
    stops = none_stop;
  };
  means = record { open_node = opened; is = λ V ch loose g. g.given.0.is };
}
  where
    own : (J : Types) × IsOwn a.nodes J
    own = own_of a.nodes at.reached.sound

    root_is : IsRoot F a it.root.0
    root_is = let found = finds_scheme (λ k sc. IsIn at.roots k) (D.declaration a.nodes at.roots at.names) (D.exception a.nodes at.roots at.names) it.root ms x it.entry it.finds it.is at.covered.1 in at.are_roots found.holds.0 it.root.0 found.holds.1

    opened : IsOpen F b m
    opened = open_instance it.sound it.rest it.taken at.reached root_is

    refines : Reaches F a → (K : Types) → IsOwn b.nodes K → Refines a.nodes b.nodes K
    refines r K own_b = refines_made a.nodes b.nodes K own_b (record { longer = it.taken.extends.longer; node = it.taken.extends.node })

    stays : Stays F a G b ((key, m) ∷ G)
    stays = record {
      longer = it.taken.extends.longer;
      loose = λ V h. loose_before a.nodes b.nodes V it.taken.extends h;
      reads = λ V h. reading_before a.nodes b.nodes V it.taken.extends h;
      reaches = λ r. opened.reached;
      writes = written_next it.rest.written (λ r. opened.reached) refines;
      refines = refines;
      recorded = λ i k y e. it.rest.types i k ∙ e;
      keeps = keeps_as it.rest.noted it.rest.scopes it.rest.types;
      written = λ y k e. it.rest.written y ∙ e;
      given = λ V ch h. h.1;
      opens = copied_more (key, m) G;
      inside = λ h. let i = inside_longer a b it.rest.types it.rest.written it.taken.extends.longer h in record { recorded = i.recorded; written = i.written; given = (opened.inside, i.given) };
      aloud = it.rest.aloud;
      item = it.rest.item;
      level = it.rest.level;
      fixed = it.rest.fixed;
    }

    sound : (V : Types) (c : Context) → ReadsOff F scope b ((key, m) ∷ G) [] [] V c → AllHold c.kept (used_if (scheme_found c.env ms x) (value_of c.chosen key))
    sound V c l =
        let stand = at.reads own.0 V c.chosen own.1 (stays.reads V l.reads) (agrees_before stays l.agrees) (named_before scope stays l.named) (bounds_before scope c.chosen stays at.reached l.unbound) in
        let found = finds_scheme (λ k sc. SchemeReads a.nodes V k sc × IsIn at.roots k) (D.declaration a.nodes at.roots at.names) (D.exception a.nodes at.roots at.names) it.root ms x it.entry it.finds it.is stand.names in
        let used = use_sound a.nodes b.nodes V it.root.0 F.level m found.scheme it.taken l.reads found.holds.0 in
        used_holds c.kept (scheme_found c.env ms x) found.scheme (value_of c.chosen key) (ap (λ E. scheme_found E ms x) l.under.env ∙ found.is) (subst (IsUse found.scheme) (sym l.agrees.given.0.is) used)

    complete : HoldsWritten scope b → (V : Types) (c : Context) → Enters F scope a G V c → AllHold c.kept (used_if (scheme_found c.env ms x) (value_of c.chosen key)) →
        Continues F (λ y. used_if (scheme_found y.env ms x) (value_of y.chosen key)) a b ((key, m) ∷ G) [] [] V c
    complete named V c e h =
        let stand = at.fits own.0 V c.chosen own.1 (fits_loosely a.nodes V e.fits) e.agrees (named_before scope stays named) in
        let found = finds_scheme (λ k sc. SchemeFits a.nodes V k sc × IsIn at.roots k) (D.declaration a.nodes at.roots at.names) (D.exception a.nodes at.roots at.names) it.root ms x it.entry it.finds it.is stand.names in
        let used = used_asks c.kept (scheme_found c.env ms x) found.scheme (value_of c.chosen key) (ap (λ E. scheme_found E ms x) e.under.env ∙ found.is) h in
        let (W, fits, same, is) = use_complete a.nodes b.nodes V it.root.0 F.level m found.scheme (value_of c.chosen key) it.taken e.fits found.holds.0 used in
        let g = agrees_same a b it.rest.types it.rest.written e.inside same e.agrees in
        record {
          same = used_silent c.kept (scheme_found c.env ms x) (value_of c.chosen key);
          types = W;
          on = record { fits = fits; before = same; agrees = record { recorded = g.recorded; known = g.known; written = g.written; given = (record { is = sym is; known = free (W m) }, g.given) } };
          hidden_too = (tt, tt);
        }
