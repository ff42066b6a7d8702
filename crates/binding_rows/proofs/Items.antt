-- An item's `let` is carried from the state where it starts to the one after it.
use Rattle.std.proofs.Common.{◌≡◌, ◌∙◌, inl, inr, ℕ, ◌≤◌, false, List, [], ◌∷◌, ◌++◌, length, Option, None, Some, refl, sym, ap, subst, append-nil, arith, true}
use Rattle.type_model.specs.Types.{occurs}
use Rattle.std.specs.Prelude.{slice_get}
use Rattle.typing_laws.proofs.Bools.{no_yes}
use Rattle.signature_model.specs.Declarations.{Name}
use Rattle.signature_model.specs.Entries.{Environment}
use Rattle.token_model.specs.Kinds.{Tok}
use Rattle.typing_model.specs.Contexts.{Choice, Context}
use Rattle.typing_model.specs.Parts.{Binding, Item}
use Rattle.typing_model.specs.Items.{variables_written, inside_item}
use Rattle.type_nodes.specs.Nodes.{Var, bound_level, IsNode}
use Rattle.type_nodes.specs.Readings.{Types, Fits, IsReading}
use Rattle.level_unify.specs.Solutions.{Loose}
use Rattle.level_unify.specs.Instances.{is_bound}
use Rattle.level_unify.proofs.Variants.{bound_cell, bound_there}
use Rattle.env_table.specs.declared.entries.Entry.{Entry}
use Rattle.typing_state.specs.declared.parts.Parts.{Parts}
use Rattle.typing_conditions.proofs.Own.{own_of}
use Rattle.typing_conditions.proofs.Fresh.{reads_closed, fits_closed}
use Rattle.typing_conditions.specs.Sights.{Scopes, Recorded, Sight, Key, Report, Letters, AreGiven, AreNodes, IsInside}
use Rattle.typing_conditions.specs.Judging.{Judgement}
use Rattle.typing_conditions.specs.Carrying.{Asks, HoldsWritten, HoldsUnbound, IsUnder, Enters, ReadsOff, Stopped, Stop}
use Rattle.typing_conditions.specs.Frames.{Reaches}
use Rattle.typing_conditions.specs.Meanings.{KnowsWritten}
use Rattle.typing_conditions.specs.Surroundings.{Declared}
use Rattle.typing_conditions.proofs.Inward.{reached_inward}
use Rattle.typing_conditions.proofs.Judged.{meets_any}
use Rattle.typing_conditions.proofs.Meaning.{open_unbound, nodes_in}
use Rattle.typing_steps.specs.States.{sight}
use Rattle.binding_rows.specs.Closing.{Limit}
use Rattle.binding_rows.specs.Decided.{IsAmong}
use Rattle.binding_rows.specs.Lets.{ToClose}
use Rattle.binding_rows.specs.Outside.{Lasts, letters_left, AgreesOutside, AreInside, Left, IsLeft, EntersItems, ReadsItems, StaysOutside, ItemsCarried, SeesItems}
use Rattle.binding_rows.specs.Stopped.{LastsOutside, ItemStopped, ItemStop, StopsItems}
use Rattle.binding_rows.specs.ItemRows.{AreOwned, none_owned, leaves_one}
use Rattle.binding_rows.specs.ItemGroups.{item_scope, ItemGroup}
use Rattle.binding_rows.proofs.Starting.{group_frame, goes_in, surrounds_item}
use Rattle.binding_rows.proofs.ItemClosing.{closed_nodes, item_limited, item_letters, item_part, item_copies, item_written, item_closes, item_out, item_refines, after_reached, loose_before_close, still_bound}
use Rattle.typing_conditions.specs.Hiding.{ArePlaced, NoneDoubtful, Settles, HasCopy, IsDone}
use Rattle.typing_conditions.proofs.Stops.{get_cases}
use Rattle.typing_conditions.proofs.Hiding.{placed_before, copy_itself, copy_of, copy_second, copy_first, keeps_as, keeps_both, settles_as}

module _ {D : Declared} {n : ℕ} {ts : List Tok} {E : Choice → Environment} {asks : Asks} {x : Parts} {y : Sight} {G : Letters} {s d : Parts} {env : List Entry} {xs : List Binding} {ys : List ToClose} {limits : List Limit} (l : ItemGroup D n ts E asks x y G s d env xs ys limits) where
  reads_before_close : (V : Types) → IsReading d.store.nodes V → IsReading (item_limited l).nodes V
  reads_before_close V h = let (K, own_k, closes) = item_closes l in reads_closed (item_limited l).nodes d.store.nodes K V (closed_nodes l) x.level closes h

  same_length : length (item_limited l).nodes ≤ length d.store.nodes
  same_length = let (K, own_k, closes) = item_closes l in let q = closes.len in omega arith

  none_yet : (z : Name) (m : ℕ) → y.written z ≡ Some m → ⊥
  none_yet z m e = let f : Some m ≡ None = sym e ∙ l.only.written z ∙ l.cleared z in cc

  inside_start : AreInside (sight x) G → IsInside y G
  inside_start i = record {
    recorded = λ j k m e. subst (λ ns. IsNode ns m) (sym l.only.nodes) (i.recorded j k m (sym (l.only.types j k) ∙ e));
    written = λ z m e. absurd (none_yet z m e);
    given = subst (AreNodes G) (sym l.only.nodes) i.given;
  }

  inside_end : IsInside (item_limited l) (item_letters l) → AreInside (sight d) (item_letters l)
  inside_end i = record {
    recorded = λ j k m e. let r = i.recorded j k m (sym ((item_out l).types j k) ∙ e) in let q = same_length in omega arith;
    given = nodes_in (item_letters l) (item_limited l).nodes d.store.nodes same_length i.given;
  }

  pub item_stays : StaysOutside (sight x) G (sight d) (item_letters l)
  item_stays = record {
    sound = λ before. l.close.sound;
    bounds = λ v b. let own = own_of d.store.nodes l.close.sound in let (o, at) = bound_cell x.store.nodes v b in bound_there d.store.nodes v (Var bound_level o) ((item_refines l own.0 own.1).bounds v o at) refl;
    loose = λ V h. subst (λ ns. Loose ns V) l.only.nodes ((item_part l).stays.loose V (loose_before_close l V h));
    reads = λ V h. subst (λ ns. IsReading ns V) l.only.nodes ((item_part l).stays.reads V (reads_before_close V h));
    refines = item_refines l;
    recorded = λ i k m e. (item_out l).types i k ∙ (item_part l).stays.recorded i k m (l.only.types i k ∙ e);
    keeps = keeps_both (keeps_as l.only.noted l.only.scopes l.only.types) (keeps_both (item_part l).stays.keeps (keeps_as (item_out l).noted (item_out l).scopes (item_out l).types));
    given = (item_part l).stays.given;
    inside = λ i. inside_end ((item_part l).stays.inside (inside_start i));
    aloud = (item_out l).aloud ∙ (item_part l).stays.aloud ∙ l.only.aloud;
    level = (after_reached l).level;
    fixed = (item_out l).fixed ∙ (item_part l).stays.fixed ∙ l.only.fixed;
  }

  under_item : (c : Context) → c.env ≡ E c.chosen → IsUnder (item_scope n ts E) (inside_item n ts c)
  under_item c e = record { env = e; variables = refl; held = refl }

  named_there : HoldsWritten (item_scope n ts E) (item_limited l)
  named_there z m e = l.named z m ((item_out l).written z ∙ e)

  -- what only the item's own conditions speak of
  abbrev pub item_left : Left
  item_left = record { letters = (item_part l).hidden; owner = n; names = variables_written ts; written = (sight d).written; fixed = [] }

  -- no variable that was bound inside the item stands in the type of a type variable of the item, written or not
  unbound_there : (V : Types) (c : Context) → IsReading d.store.nodes V → IsLeft d.store.nodes item_left V c.chosen → HoldsUnbound (group_frame l) (item_scope n ts E) (item_limited l) c.chosen
  unbound_there V c reads left k z e v bound = by ((sight d).written z) refl
    where
      by : (o : Option ℕ) → (sight d).written z ≡ o → occurs v (c.chosen.written n z) ≡ false
      by None f = left.others k z e f v (still_bound l v bound)
      by (Some m) f = ap (occurs v) (left.written z m f) ∙ open_unbound ((item_written l).each z m (sym ((item_out l).written z) ∙ f)) V (reads_before_close V reads) v bound

  reads_off : {js : List Judgement} (V : Types) (c : Context) → ReadsItems E (sight d) (item_letters l) (item_left ∷ []) js V c → (scopes : Scopes) (types : Recorded) → Lasts (sight d) scopes types → ReadsOff (group_frame l) (item_scope n ts E) (item_limited l) (item_letters l) (item_part l).hidden js V (inside_item n ts c)
  reads_off V c r scopes types inside = record {
    under = under_item c r.env;
    reads = reads_before_close V r.reads;
    agrees = record {
      recorded = λ i p m e. r.agrees.recorded i p m ((item_out l).types i p ∙ e);
      known = λ i p m e. r.agrees.known i p m ((item_out l).types i p ∙ e);
      written = λ z m e. r.left_too.0.written z m ((item_out l).written z ∙ e);
      given = r.agrees.given;
    };
    hidden_too = r.left_too.0.letters;
    named = named_there;
    unbound = unbound_there V c r.reads r.left_too.0;
    kept = r.kept;
    scopes = scopes;
    in_the_end = λ i k names h. inside.names i k names ((item_out l).scopes i k names h);
    types = types;
    types_too = λ i k m h. inside.nodes i k m ((item_out l).types i k ∙ h);
  }

  enters_group : (V : Types) (c : Context) → EntersItems E (sight x) G V c → Enters (group_frame l) (item_scope n ts E) y G V (inside_item n ts c)
  enters_group V c e = record {
    under = under_item c e.env;
    inside = inside_start e.inside;
    fits = subst (λ ns. Fits ns V) (sym l.only.nodes) e.fits;
    agrees = record {
      recorded = λ i p m f. e.agrees.recorded i p m (sym (l.only.types i p) ∙ f);
      known = λ i p m f. e.agrees.known i p m (sym (l.only.types i p) ∙ f);
      written = λ z m f. absurd (none_yet z m f);
      given = e.agrees.given;
    };
  }

  -- A context that the state before allows is one among the names before, inside the item.
  pub among_group : (V : Types) (c : Context) → c.env ≡ E c.chosen → Loose x.store.nodes V → AgreesOutside (sight x) G V c.chosen → IsAmong D env (inside_item n ts c)
  among_group V c e loose agrees = record {
    state = y;
    frame = group_frame l;
    scope = item_scope n ts E;
    letters = G;
    types = V;
    at = surrounds_item l;
    loose = subst (λ ns. Loose ns V) (sym l.only.nodes) loose;
    under = under_item c e;
    agrees = record {
      recorded = λ i p m f. agrees.recorded i p m (sym (l.only.types i p) ∙ f);
      known = λ i p m f. agrees.known i p m (sym (l.only.types i p) ∙ f);
      written = λ z m f. absurd (none_yet z m f);
      given = agrees.given;
    };
    named = λ z m f. absurd (none_yet z m f);
  }

  -- What is asked inside the item is carried from the state where it starts to the one after it.
  pub item_carried : ItemsCarried E (λ c. asks (inside_item n ts c)) (sight x) G (sight d) (item_letters l)
  item_carried = record {
    stays = item_stays;
    left = item_left ∷ [];
    opened = λ k x e. elim (item_copies l k x e) [ inl before ↦ inl before | inr left ↦ inr (copy_first (item_part l).hidden [] left) ];
    settled = subst (Settles (sight x) (sight d)) (sym (append-nil (item_part l).hidden)) (settles_as (item_part l).hidden (keeps_as l.only.noted l.only.scopes l.only.types) (keeps_as (item_out l).noted (item_out l).scopes (item_out l).types) (item_part l).settled);
    judged = (item_part l).judged;
    told = (item_part l).told;
    reports = (item_out l).reports ∙ (item_part l).reports ∙ ap (λ rs. rs ++ (item_part l).told) l.only.reports;
    counted = (item_part l).counted;
    sound = λ V c r. meets_any ((item_part l).sound (reached_inward (goes_in l) l.only l.raised) V (inside_item n ts c) (reads_off V c r (sight d).scopes (sight d).types (record { names = λ i k names h. h; nodes = λ i k m h. h })));
    follows = λ V c r. (item_part l).follows (reached_inward (goes_in l) l.only l.raised) V (inside_item n ts c) (reads_off V c r (sight d).scopes (sight d).types (record { names = λ i k names h. h; nodes = λ i k m h. h }));
    complete = λ V c e h. elim ((item_part l).complete named_there V (inside_item n ts c) (enters_group V c e) h) [
      | inl goes ↦ inl (record {
        same = goes.same;
        types = goes.types;
        fits = let (K, own_k, closes) = item_closes l in fits_closed (item_limited l).nodes d.store.nodes K goes.types (closed_nodes l) x.level closes goes.on.fits;
        before = λ m lt. goes.on.before m (let q : length y.nodes ≡ length x.store.nodes = ap length l.only.nodes in omega arith);
        agrees = record {
          recorded = λ i p m f. goes.on.agrees.recorded i p m (sym ((item_out l).types i p) ∙ f);
          known = λ i p m f. goes.on.agrees.known i p m (sym ((item_out l).types i p) ∙ f);
          given = goes.on.agrees.given;
        };
        left_too = (
          subst (λ xs. AreNodes xs d.store.nodes) (sym (append-nil (item_part l).hidden)) (nodes_in (item_part l).hidden (item_limited l).nodes d.store.nodes same_length goes.hidden_too.0),
          subst (λ xs. AreGiven xs goes.types c.chosen) (sym (append-nil (item_part l).hidden)) goes.hidden_too.1,
        );
        decided = (tt, tt);
      })
      | inr short ↦ inr short
    ];
    first = λ k V c e h. (item_part l).first named_there k V (inside_item n ts c) (enters_group V c e) h;
  }

  -- Where all that is to be known of names is, no letter that is left is in doubt.
  pub item_clear : l.at.known ≡ true → ArePlaced (sight d) → NoneDoubtful (letters_left item_carried.left)
  unfolding item_carried
  item_clear known placed = subst NoneDoubtful (sym (append-nil (item_part l).hidden)) ((item_part l).clear known (placed_before (keeps_as (item_out l).noted (item_out l).scopes (item_out l).types) placed))

  -- For each node that is treated in it the names in scope are recorded.
  pub item_sees : SeesItems E (λ c. asks (inside_item n ts c)) (sight d) (item_letters l) item_carried.left item_carried.judged
  unfolding item_carried reads_off
  item_sees V c r scopes types inside = ((item_part l).sound (reached_inward (goes_in l) l.only l.raised) V (inside_item n ts c) (reads_off V c r scopes types inside)).sees

  -- It is the item's own that was left.
  pub item_owned : (m : Item) → n ≡ m.node → AreOwned (m ∷ []) item_carried.left
  unfolding item_carried
  item_owned m own = leaves_one own refl none_owned

  -- The letters at a stop inside the item, and the type variables that are written up to there.
  abbrev begun_at : {r : Report} {k : ℕ} → Stop (group_frame l) (item_scope n ts E) asks y G (item_limited l) ((item_part l).hidden ++ item_letters l) (item_part l).judged k r → Left
  begun_at t = record { letters = t.letters; owner = n; names = variables_written ts; written = t.state.written; fixed = [] }

  -- where nothing is written yet
  knows_none : KnowsWritten (group_frame l) y
  knows_none = record { each = λ z m e. absurd (none_yet z m e); names = []; listed = λ z m e. absurd (none_yet z m e) }

  reached_start : Reaches (group_frame l) y
  reached_start = reached_inward (goes_in l) l.only l.raised

  -- what is there at a stop is there after the item
  lasts_after : {r : Report} {k : ℕ} (t : Stop (group_frame l) (item_scope n ts E) asks y G (item_limited l) ((item_part l).hidden ++ item_letters l) (item_part l).judged k r) → LastsOutside t.state (letters_left (begun_at t ∷ [])) (sight d) (letters_left (item_left ∷ []) ++ G)
  lasts_after t = record {
    longer = let q = same_length in let m = t.lasts.longer in omega arith;
    loose = λ V h. t.lasts.loose V (loose_before_close l V h);
    recorded = λ i k m e. (item_out l).types i k ∙ t.lasts.recorded i k m e;
    letters = λ k z e. on z (t.lasts.letters k z (subst (λ xs. slice_get xs k ≡ Some z) (append-nil t.letters) e));
  }
    where
      more : (k : ℕ) (z : Key × ℕ) → slice_get ((item_part l).hidden ++ item_letters l) k ≡ Some z → HasCopy (letters_left (item_left ∷ []) ++ G) z
      more k z e = elim (get_cases (item_part l).hidden (item_letters l) k z e) [
        | inl f ↦ copy_first (letters_left (item_left ∷ [])) G (copy_first (item_part l).hidden [] (copy_itself (item_part l).hidden k z f))
        | inr (j, _, f) ↦ elim (item_copies l j z f) [ inl before ↦ copy_second (letters_left (item_left ∷ [])) G before | inr left ↦ copy_first (letters_left (item_left ∷ [])) G (copy_first (item_part l).hidden [] left) ]
      ]

      on : (z : Key × ℕ) → IsDone (item_limited l) ((item_part l).hidden ++ item_letters l) z → IsDone (sight d) (letters_left (item_left ∷ []) ++ G) z
      on z (inl f) = inl (record { item = f.item; place = f.place; key = f.key; at = (item_out l).types f.item f.place ∙ f.at })
      on z (inr h) = inr (copy_of h (more h.place h.entry h.at))

  -- A stop inside the item is one of it.
  item_stop : {r : Report} {k : ℕ} → Stop (group_frame l) (item_scope n ts E) asks y G (item_limited l) ((item_part l).hidden ++ item_letters l) (item_part l).judged k r → ItemStop E (λ c. asks (inside_item n ts c)) (sight x) G (sight d) (item_left ∷ []) (item_part l).judged k r
  item_stop {r} t = record {
    state = t.state;
    begun = begun_at t ∷ [];
    found = t.found;
    wanted = t.wanted;
    names = t.names;
    site = t.site;
    before = t.before;
    judged_so = t.judged_so;
    counts = t.counts;
    shows = t.shows;
    unbound = t.unbound;
    up_to = record {
      sound = t.up_to.sound reached_start;
      longer = let q : length y.nodes ≡ length x.store.nodes = ap length l.only.nodes in let m = t.up_to.longer in omega arith;
      reads = λ V h. subst (λ ns. IsReading ns V) l.only.nodes (t.up_to.reads V h);
      bounds = λ v b. t.up_to.bounds reached_start v (subst (λ ns. is_bound ns v ≡ true) (sym l.only.nodes) b);
      recorded = λ i k m e. t.up_to.recorded i k m (l.only.types i k ∙ e);
      given = λ V ch g. t.up_to.given V ch (subst (λ xs. AreGiven xs V ch) (append-nil t.letters) g);
      inside = λ i. let inside = t.up_to.inside (inside_start i) in record { recorded = inside.recorded; given = tt };
    };
    are_begun = (refl, refl, tt);
    lasts = lasts_after t;
    enters = λ V c e kept k st at q h.
        let to = t.enters named_there V (inside_item n ts c) (enters_group V c e) kept k st at q h in
        record {
          types = to.types;
          fits = to.fits;
          before = λ m lt. to.before m (let q : length y.nodes ≡ length x.store.nodes = ap length l.only.nodes in omega arith);
          agrees = record { recorded = to.agrees.recorded; known = to.agrees.known; given = tt };
          left_too = (subst (λ xs. AreNodes xs t.state.nodes) (sym (append-nil t.letters)) to.nodes, subst (λ xs. AreGiven xs to.types c.chosen) (sym (append-nil t.letters)) to.agrees.given);
          decided = (tt, tt);
          asks = to.asks;
        };
    reads = λ V c q known. stopped (t.reads reached_start V (inside_item n ts c) (record {
      under = under_item c q.env;
      reads = q.reads;
      agrees = record { recorded = q.agrees.recorded; known = q.agrees.known; written = λ z m e. q.left_too.0.written z m e; given = q.left_too.0.letters };
      named = λ z m e. named_there z m (t.lasts.written z m e);
      unbound = λ k z e v bound. unbound V c q.reads q.left_too.0 k z e v bound (t.state.written z) refl;
      kept = q.kept;
      known = known;
    }));
  }
    where
      unbound : (V : Types) (c : Context) → IsReading t.state.nodes V → IsLeft t.state.nodes (begun_at t) V c.chosen → (k : ℕ) (z : Name) → slice_get (variables_written ts) k ≡ Some z → (v : ℕ) → is_bound t.state.nodes v ≡ true → (o : Option ℕ) → t.state.written z ≡ o → occurs v (c.chosen.written n z) ≡ false
      unbound V c reads left k z e v bound None f = left.others k z e f v bound
      unbound V c reads left k z e v bound (Some m) f = ap (occurs v) (left.written z m f) ∙ t.up_to.free reached_start knows_none V reads z m f v bound

      stopped : {V : Types} {c : Context} → Stopped (item_scope n ts E) (asks (inside_item n ts c)) t.before t.site r.at t.found t.wanted t.names V (inside_item n ts c) → ItemStopped (asks (inside_item n ts c)) t.before t.site r.at t.found t.wanted t.names V c
      stopped {V} {c} h = elim h.around [
        | inl (F, treats, alike) ↦ record { place = h.place; stops = h.stops; env = h.env; treated_in = F; treats = treats; alike = alike; stands = h.stands }
        | inr (none, _) ↦ absurd (no_yes none)
      ]

  -- So each report inside it that two types differ has a stop.
  pub item_stops : StopsItems E (λ c. asks (inside_item n ts c)) (sight x) G (sight d) (item_letters l) item_carried.left item_carried.judged item_carried.told
  unfolding item_carried
  item_stops V c q k r e kind = item_stop ((item_part l).stops k r e kind)
