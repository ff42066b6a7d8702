-- Where two types were reported to differ in a text: they are the most general ones that the demand has where what is asked before it is met.
use Rattle.std.proofs.Common.{◌≡◌, ◌+◌, ◌∙◌, inl, inr, ℕ, zero, suc, ◌^◌, ◌==◌, Bool, true, false, ◌&&◌, Option, Some, None, List, [], ◌∷◌, take, length, refl, sym, ap, subst, append-nil}
use Rattle.std.specs.Prelude.{slice_get}
use Rattle.std.proofs.lemmas.Nat.{div-mul-add, mod-mul-add}
use Rattle.std.proofs.lemmas.Option.{same_Some}
use Rattle.type_model.proofs.Applying.{or_cases}
use Rattle.tree_model.specs.Trees.{Tree, Place}
use Rattle.signature_model.specs.Entries.{Environment}
use Rattle.signature_model.specs.Matching.{IsKnown}
use Rattle.typing_model.specs.Demands.{Site, same_site, Demand, equal, demand, AllHold, sites_of, demand_of}
use Rattle.typing_model.specs.Contexts.{Choice}
use Rattle.typing_model.specs.Meanings.{items_of}
use Rattle.typing_model.specs.Typings.{outermost, conditions_of, no_choice, demands_of, is_site_among, sites_before, kept_before, conditions_before}
use Rattle.typing_model.specs.Plain.{has_values_alone}
use Rattle.fault_model.specs.Values.{are_bare}
use Rattle.fault_model.specs.Refused.{sites_refused}
use Rattle.type_model.specs.Types.{Var}
use Rattle.fault_model.specs.Messages.{asked_before, IsPairAt, IsTreatedIn}
use Rattle.type_nodes.specs.Nodes.{Node, Con, IsSound}
use Rattle.type_nodes.specs.Readings.{Types}
use Rattle.type_nodes.proofs.Identity.{identity}
use Rattle.level_unify.specs.Solutions.{Loose}
use Rattle.level_unify.proofs.Unified.{fits_loosely}
use Rattle.env_table.specs.declared.faults.FaultKind.TheVariants as fault
use Rattle.typing_laws.proofs.Bools.{no_yes}
use Rattle.typing_conditions.specs.Locals.{IsOwn, IsPlain}
use Rattle.typing_conditions.specs.Sights.{Sight, Key, own, Letters, Report, number_in}
use Rattle.typing_conditions.specs.Hiding.{plain_key, is_own, IsDone, ArePlaced, HaveOneNode, NoneDoubtful}
use Rattle.typing_conditions.specs.Judging.{judged_at, is_closing, judgements}
use Rattle.typing_conditions.proofs.Adequate.{kept_of}
use Rattle.typing_conditions.proofs.Own.{own_of}
use Rattle.typing_conditions.proofs.Roots.{own_reads}
use Rattle.site_laws.proofs.Texts.{AreSmall}
use Rattle.demand_laws.proofs.Left.{sites_left, sites_refused_left, left_there}
use Rattle.binding_rows.specs.ItemRows.{AreOwned}
use Rattle.binding_rows.specs.Outside.{Left, letters_left, ItemsCarried}
use Rattle.binding_rows.specs.Stopped.{AreBegun, GoesToItem, ItemStopped, ItemStop, StopsItems}
use Rattle.text_laws.specs.Texts.{sites_judged, AreApart, text_asks, IsOrderly, AsksOnce, IsTyped}
use Rattle.text_laws.specs.Reading.{node_for, recorded_at, type_or, first_there, or_type, read_choice, OwnersApart, NoneDecided, AreOne}
use Rattle.text_laws.specs.Stopped.{IsStopped}
use Rattle.text_laws.proofs.Sites.{one_site, sites_of_judged}
use Rattle.text_laws.proofs.Before.{before_of_up_to, demand_of_up_to, sites_before_of, IsAskedAt, asked_at, judged_there, site_there, one_place, before_at, hold_of}
use Rattle.text_laws.proofs.Orderly.{values_orderly}
use Rattle.text_laws.proofs.Once.{values_once}
use Rattle.text_laws.proofs.Owners.{owners_apart, none_left}
use Rattle.text_laws.proofs.Kept.{either_holds, met, enters}
use Rattle.text_laws.proofs.Reading.{none_decided, alone_none, reads_there}
use Rattle.text_laws.proofs.Principal.{sure_principal}

-- each item that left something up to a stop left something in the end
owner_begun : (xs ls : List Left) → AreBegun xs ls → (k : ℕ) (x : Left) → slice_get xs k ≡ Some x → (l : Left) × (slice_get ls k ≡ Some l) × (x.owner ≡ l.owner)
owner_begun [] ls h k x e = absurd (cc)
owner_begun (y ∷ xs) [] h k x e = absurd h
owner_begun (y ∷ xs) (l ∷ ls) h zero x e = let is : y ≡ x = cc in (l, refl, ap (λ (z : Left). z.owner) (sym is) ∙ h.0)
owner_begun (y ∷ xs) (l ∷ ls) h (suc k) x e = owner_begun xs ls h.2 k x e

-- so they are different ones where those in the end are
owners_begun : (xs ls : List Left) → AreBegun xs ls → OwnersApart ls → OwnersApart xs
owners_begun [] ls h apart = tt
owners_begun (x ∷ xs) [] h apart = absurd h
owners_begun (x ∷ xs) (l ∷ ls) h apart = (λ k m e. let (z, at, is) = owner_begun xs ls h.2 k m e in (λ i. is i == h.0 i) ∙ apart.0 k z at, owners_begun xs ls h.2 apart.1)

-- and none decided a type where none does in the end
none_begun : (xs ls : List Left) → AreBegun xs ls → NoneDecided ls → NoneDecided xs
none_begun [] ls h none = tt
none_begun (x ∷ xs) [] h none = absurd h
none_begun (x ∷ xs) (l ∷ ls) h none = (h.1 ∙ none.0, none_begun xs ls h.2 none.1)

-- a store from which one goes on in which no constructor is an unknown type has none
plain_before : {old new : List Node} {J : Types} → IsPlain new → IsOwn new J → ((V : Types) → Loose new V → Loose old V) → IsPlain old
plain_before {J = I} plain types loose = record { each = λ n path name ms e. (subst IsKnown ((loose I types.loose).each n (Con path name ms) e) (types.known plain n)).0 }

-- no unknown type stands in the types of nodes that are read off
known_choice : (V : Types) → ((m : ℕ) → IsKnown (V m)) → (b : Sight) (keys : Letters) (left : List Left) → NoneDecided left → (n : ℕ) → IsKnown ((read_choice V b keys left).type_at n)
known_choice V known b keys left none n = subst (λ o. IsKnown (or_type (type_or V (Var (length b.nodes + n)) (first_there (recorded_at b n) (node_for (is_own n) keys))) o)) (sym (none_decided left none n)) (by (first_there (recorded_at b n) (node_for (is_own n) keys)))
  where
    by : (o : Option ℕ) → IsKnown (type_or V (Var (length b.nodes + n)) o)
    by None = tt
    by (Some m) = known m

-- Letters that are done after items have one node for one thing, where none that items left is doubtful.
module _ {b : Sight} {left : Letters} (placed : ArePlaced b) (sure : NoneDoubtful left) (one : HaveOneNode b left) where
  number_found : (i p m : ℕ) → b.types i p ≡ Some m → recorded_at b (number_in i p) ≡ Some m
  number_found i p m e = let low = placed.recorded i p m e in (λ k. b.types (div-mul-add i (2 ^ 32) p low k) (mod-mul-add i (2 ^ 32) p low k)) ∙ e

  done_recorded : (x : Key × ℕ) → IsDone b left x → (i p m : ℕ) → b.types i p ≡ Some m → plain_key x.0 ≡ own (number_in i p) → x.1 ≡ m
  done_recorded x (inl t) i p m e is =
      let alike : number_in t.item t.place ≡ number_in i p = (let keys : own (number_in t.item t.place) ≡ own (number_in i p) = sym t.key ∙ is in cc) in
      let there : Some x.1 ≡ Some m = sym (number_found t.item t.place x.1 t.at) ∙ ap (recorded_at b) alike ∙ number_found i p m e in
      cc
  done_recorded x (inr h) i p m e is = sym h.node ∙ one.recorded i p m h.place h.entry e h.at (sure h.place h.entry h.at) (h.key ∙ is)

  done_one : (x y : Key × ℕ) → IsDone b left x → IsDone b left y → plain_key x.0 ≡ plain_key y.0 → x.1 ≡ y.1
  done_one x y (inl t) d is = sym (done_recorded y d t.item t.place x.1 t.at (sym is ∙ t.key))
  done_one x y (inr h) (inl t) is = done_recorded x (inr h) t.item t.place y.1 t.at (is ∙ t.key)
  done_one x y (inr h) (inr g) is = sym h.node ∙ one.letters h.place g.place h.entry g.entry h.at g.at (sure h.place h.entry h.at) (sure g.place g.entry g.at) (h.key ∙ is ∙ sym g.key) ∙ g.node

-- A stop of a text whose demands are made once and in order, after which none of the letters that items left is doubtful.
module _ {env : Environment} {text : List Tree} {kept : Site → Bool} {a b : Sight} {G : Letters} (orderly : IsOrderly env text) (once : AsksOnce env text) (h : IsTyped env text kept a b G) (placed : ArePlaced b) (plain : IsPlain b.nodes) (sure : NoneDoubtful (letters_left h.carried.left))
    (owners : OwnersApart h.carried.left) (none : NoneDecided h.carried.left) {k : ℕ} {r : Report} (s : ItemStop (λ ch. env) (text_asks text) a [] b h.carried.left h.carried.judged k r) where
  -- the types that the nodes had then by themselves
  own_then : (J : Types) × IsOwn s.state.nodes J
  own_then = own_of s.state.nodes s.up_to.sound

  abbrev J : Types
  J = own_then.0

  abbrev keys : Letters
  keys = letters_left s.begun

  known_then : (m : ℕ) → IsKnown (J m)
  known_then = let last = own_of b.nodes (h.carried.stays.sound h.sound) in own_then.1.known (plain_before plain last.1 s.lasts.loose)

  done_then : (k : ℕ) (x : Key × ℕ) → slice_get keys k ≡ Some x → IsDone b (letters_left h.carried.left) x
  done_then k x e = subst (λ xs. IsDone b xs x) (append-nil (letters_left h.carried.left)) (s.lasts.letters k x e)

  one_then : AreOne J s.state keys
  one_then = record {
    letters = λ j k x y e f is. ap J (done_one placed sure (h.carried.settled.one placed) x y (done_then j x e) (done_then k y f) is);
    recorded = λ i p m k x e f is. ap J (done_recorded placed sure (h.carried.settled.one placed) x (done_then k x f) i p m (s.lasts.recorded i p m e) is);
    places = λ i p m e. placed.recorded i p m (s.lasts.recorded i p m e);
  }

  -- the choice that is read off then
  abbrev choice : Choice
  choice = read_choice J s.state keys s.begun

  none_then : NoneDecided s.begun
  none_then = none_begun s.begun h.carried.left s.are_begun none

  stopped : ItemStopped (conditions_of env text kept choice) s.before s.site r.at s.found s.wanted s.names J (outermost env kept choice)
  stopped = s.reads J (outermost env kept choice)
      (reads_there env s.state [] s.begun J (own_reads s.state.nodes J own_then.1) known_then one_then (owners_begun s.begun h.carried.left s.are_begun owners) (alone_none none_then) kept h.carried.judged h.reads.kept)
      (known_choice J known_then s.state keys s.begun none_then)

  -- the demands that are kept before the stop
  abbrev earlier : Site → Bool
  earlier = kept_before env text kept s.site

  judged_of : (ch : Choice) → judgements kept (conditions_of env text kept ch) ≡ h.carried.judged
  judged_of ch = orderly.alike kept ch h.choice ∙ (met h).same

  sites_are : (ch : Choice) → sites_of (conditions_of env text kept ch) ≡ demands_of env text kept
  sites_are ch = sym (sites_of_judged kept (conditions_of env text kept ch)) ∙ ap sites_judged (orderly.alike kept ch no_choice) ∙ sites_of_judged kept (conditions_of env text kept no_choice)

  agree : (x : Site) → is_site_among x (s.site ∷ sites_before s.site (demands_of env text kept)) ≡ true → earlier x ≡ kept x
  agree x i = by (kept x) refl
    where
      by : (k : Bool) → kept x ≡ k → earlier x ≡ kept x
      by false f = ap (λ k. k && is_site_among x (sites_before s.site (demands_of env text kept))) f ∙ sym f
      by true f = elim (or_cases (same_site x s.site) (is_site_among x (sites_before s.site (demands_of env text kept))) i) [
        | inl j ↦ absurd (no_yes (sym stopped.stops.refused ∙ ap kept (sym (one_site x s.site j)) ∙ f))
        | inr j ↦ ap (λ k. k && is_site_among x (sites_before s.site (demands_of env text kept))) f ∙ j ∙ sym f
      ]

  -- what is asked before the stop is the same with all demands that are kept
  before_same : (ch : Choice) → asked_before env text kept s.site ch ≡ conditions_before s.site (conditions_of env text kept ch)
  before_same ch = sym (before_of_up_to s.site (conditions_of env text earlier ch)) ∙ ap (conditions_before s.site) (orderly.settled kept earlier ch s.site agree) ∙ before_of_up_to s.site (conditions_of env text kept ch)

  demand_same : (ch : Choice) → demand_of s.site (conditions_of env text earlier ch) ≡ demand_of s.site (conditions_of env text kept ch)
  demand_same ch = sym (demand_of_up_to s.site (conditions_of env text earlier ch)) ∙ ap (demand_of s.site) (orderly.settled kept earlier ch s.site agree) ∙ demand_of_up_to s.site (conditions_of env text kept ch)

  apart : AreApart h.carried.judged
  apart = subst AreApart (judged_of h.choice) (once kept h.choice)

  -- the demand is made at each choice
  made_at : (ch : Choice) → IsAskedAt s.site (conditions_of env text kept ch)
  made_at ch = asked_at s.site (conditions_of env text kept ch) (ap (is_site_among s.site) (sym (sites_of_judged kept (conditions_of env text kept ch)) ∙ ap sites_judged (judged_of ch)) ∙ site_there h.carried.judged s.before (judged_at s.site false false) s.judged_so)

  -- after as many others
  counted_at : (ch : Choice) (k : ℕ) (at : Place) (d : Demand) → slice_get (conditions_of env text kept ch) k ≡ Some (demand s.site at d) → length (judgements kept (take k (conditions_of env text kept ch))) ≡ s.before
  counted_at ch k at d e =
      let cs = conditions_of env text kept ch in
      one_place h.carried.judged apart (length (judgements kept (take k cs))) s.before (judged_at s.site (kept s.site) (is_closing d)) (judged_at s.site false false)
      (subst (λ js. slice_get js (length (judgements kept (take k cs))) ≡ Some (judged_at s.site (kept s.site) (is_closing d))) (judged_of ch) (judged_there kept cs k s.site at d e)) s.judged_so refl

  here : (conditions_before s.site (conditions_of env text kept choice) ≡ take stopped.place (conditions_of env text kept choice)) × (demand_of s.site (conditions_of env text kept choice) ≡ Some (r.at, equal (J s.found.0) (J s.wanted.0)))
  here = before_at kept s.site (conditions_of env text kept choice) stopped.place r.at (equal (J s.found.0) (J s.wanted.0)) (once kept choice) stopped.stops.here

  -- another choice that meets what is asked before comes to the state of the stop
  goes_there : (other : Choice) → AllHold earlier (asked_before env text kept s.site other) → GoesToItem a s.state s.begun s.found s.wanted (made_at other).demands (identity h.sound.0 a.nodes) other
  goes_there other holds = s.enters (identity h.sound.0 a.nodes) (outermost env kept other) (enters h kept other) h.reads.kept m.place s.site m.at m.demands (record {
    here = m.here;
    refused = stopped.stops.refused;
    counted = counted_at other m.place m.at m.demands m.here;
    holds = hold_of earlier kept (take m.place (conditions_of env text kept other)) (λ x i e. ap (λ k. k && is_site_among x (sites_before s.site (demands_of env text kept))) e ∙ before x i) (subst (AllHold earlier) (before_same other ∙ m.before) holds);
  })
    where
      m : IsAskedAt s.site (conditions_of env text kept other)
      m = made_at other

      before : (x : Site) → is_site_among x (sites_of (take m.place (conditions_of env text kept other))) ≡ true → is_site_among x (sites_before s.site (demands_of env text kept)) ≡ true
      before x i = ap (is_site_among x) (sym (ap sites_of (sym m.before) ∙ sites_before_of s.site (conditions_of env text kept other) ∙ ap (sites_before s.site) (sites_are other))) ∙ i

  pair_then : IsPairAt env text kept s.site r.at (J s.found.0) (J s.wanted.0)
  pair_then = record {
    choice = choice;
    holds = subst (AllHold earlier) (sym (before_same choice ∙ here.0)) (hold_of kept earlier (take stopped.place (conditions_of env text kept choice)) (λ x i e. either_holds (kept x) (is_site_among x (sites_before s.site (demands_of env text kept))) e) stopped.stops.holds);
    asks = demand_same choice ∙ here.1;
    general = λ other holds.
        let to = goes_there other holds in
        let loose = fits_loosely s.state.nodes to.types to.fits in
        let m = made_at other in (
          m.at,
          to.types s.found.0,
          to.types s.wanted.0,
          demand_same other ∙ m.of_site ∙ ap (λ d. Some (m.at, d)) to.asks,
          record { types = to.types; first = own_then.1.comes to.types loose s.found.0; second = own_then.1.comes to.types loose s.wanted.0 },
        );
  }

  -- So the report is that of a demand of the text that isn't kept, and shows its two types.
  is_stopped : IsStopped env text kept s.site r
  unfolding pair_then
  is_stopped = record {
    refused = stopped.stops.refused;
    nodes = s.state.nodes;
    sound = s.up_to.sound;
    types = J;
    own = own_then.1;
    known = known_then;
    found = s.found;
    wanted = s.wanted;
    pair = pair_then;
    treated_in = stopped.treated_in;
    in_scope = subst (IsTreatedIn s.site.node stopped.treated_in) (sym (before_same choice ∙ here.0)) stopped.treats;
    names = s.names;
    names_of = stopped.env;
    alike = stopped.alike;
    stands = stopped.stands;
    shows = s.shows;
    unbound = s.unbound;
  }

  -- Its site is the one after as many that aren't kept as reports come before it.
  pub stopped_at : (ch : Choice) (x : Site) → slice_get (sites_refused kept (conditions_of env text kept ch)) k ≡ Some x → IsStopped env text kept x r
  unfolding pair_then
  stopped_at ch x e = subst (λ z. IsStopped env text kept z r) (same_Some s.site x (sym there ∙ e)) is_stopped
    where
      there : slice_get (sites_refused kept (conditions_of env text kept ch)) k ≡ Some s.site
      there = ap (λ ss. slice_get ss k) (sites_refused_left kept (conditions_of env text kept ch) ∙ ap sites_left (judged_of ch)) ∙ left_there h.carried.judged s.before k s.site false s.judged_so s.counts

-- So of each report of a text of `let`, `;;` and exceptions without an argument that two types differ it is known which demand's it is, that of the site with its number among those that aren't kept, and that it shows the demand's two types, where none of the letters that are left is doubtful.
pub values_stopped : {env : Environment} {text : List Tree} {a b : Sight} {G : Letters} (p : ItemsCarried (λ ch. env) (text_asks text) a [] b G) → AreOwned (items_of text) p.left → ((i k : ℕ) → a.types i k ≡ None) → IsSound a.nodes → has_values_alone text ≡ true → are_bare text ≡ true → AreSmall text → IsPlain b.nodes →
    NoneDoubtful (letters_left p.left) → ArePlaced b → StopsItems (λ ch. env) (text_asks text) a [] b G p.left p.judged p.told → (k : ℕ) (r : Report) → slice_get p.told k ≡ Some r → r.kind ≡ fault.Equal →
    (ch : Choice) (s : Site) → slice_get (sites_refused (kept_of p.judged) (conditions_of env text (kept_of p.judged) ch)) k ≡ Some s → IsStopped env text (kept_of p.judged) s r
values_stopped {env} {text} {a} {b} {G} p owned none sound values bare small plain sure placed stops k r e kind ch s at =
    let (h, principal, own_types, is) = sure_principal {env = env} {text = text} p owned none sound values bare small plain sure placed in
    let stops_here : StopsItems (λ ch. env) (text_asks text) a [] b G h.carried.left h.carried.judged h.carried.told = subst (λ (q : ItemsCarried (λ ch. env) (text_asks text) a [] b G). StopsItems (λ ch. env) (text_asks text) a [] b G q.left q.judged q.told) (sym is) stops in
    let owned_here : AreOwned (items_of text) h.carried.left = subst (λ (q : ItemsCarried (λ ch. env) (text_asks text) a [] b G). AreOwned (items_of text) q.left) (sym is) owned in
    stopped_at (values_orderly {env = env} {text = text} values) (values_once env text values small) h placed plain
    (subst (λ (q : ItemsCarried (λ ch. env) (text_asks text) a [] b G). NoneDoubtful (letters_left q.left)) (sym is) sure) (owners_apart text values bare owned_here) (none_left text values bare owned_here)
    (stops_here h.types (outermost env (kept_of p.judged) h.choice) h.reads k r (ap (λ (q : ItemsCarried (λ ch. env) (text_asks text) a [] b G). slice_get q.told k) is ∙ e) kind) ch s at
