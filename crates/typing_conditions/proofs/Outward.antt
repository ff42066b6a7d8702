-- Back out of a frame one level further in: the names that were typed in it are closed.
use Rattle.std.proofs.Common.{◌≡◌, ◌≢◌, ◌∙◌, ◌⊎◌, ℕ, zero, suc, ◌<◌, ◌≤◌, min, true, List, [], ◌∷◌, ◌++◌, length, Some, refl, sym, ap, subst, arith, inl, inr}
use Rattle.std.specs.Prelude.{slice_get}
use Rattle.type_model.specs.Types.{occurs}
use Rattle.signature_model.specs.Declarations.{Name}
use Rattle.typing_model.specs.Contexts.{Context}
use Rattle.type_nodes.specs.Nodes.{Var, bound_level, IsSound, IsNode}
use Rattle.type_nodes.specs.Readings.{Types, Fits, IsReading}
use Rattle.level_unify.specs.Solutions.{Loose}
use Rattle.level_unify.specs.Instances.{is_bound}
use Rattle.level_unify.proofs.Variants.{bound_cell, bound_there}
use Rattle.typing_conditions.specs.Locals.{IsOwn, stands_in_any, Within, Refines, Local, IsContext, ClosesAll}
use Rattle.typing_conditions.specs.Standing.{IsIn}
use Rattle.typing_conditions.proofs.Own.{own_of}
use Rattle.typing_conditions.proofs.Regions.{in_any}
use Rattle.typing_conditions.proofs.Steps.{local_then, same_node}
use Rattle.typing_conditions.proofs.Instances.{local_more}
use Rattle.typing_conditions.proofs.Closing.{closed_loose, own_reopened, local_closed}
use Rattle.typing_conditions.proofs.Bindings.{any_before, any_after}
use Rattle.typing_conditions.proofs.Fresh.{reads_closed, fits_closed}
use Rattle.typing_conditions.specs.Sights.{Report, AreScopesIn, Sight, Letters, AreNodes, IsInside}
use Rattle.typing_conditions.specs.Frames.{Frame, Reaches, IsHeld, IsOpenAt, IsOpen, inner_frame, GoesIn}
use Rattle.typing_conditions.specs.Meanings.{KnowsWritten}
use Rattle.typing_conditions.specs.Steps.{OnlyLevel}
use Rattle.typing_conditions.specs.Carrying.{Asks, Scope, HoldsWritten, Enters, Stays, Lasts, Stop, Carried}
use Rattle.typing_conditions.specs.Hiding.{AreDone}
use Rattle.typing_conditions.proofs.Meaning.{inside_longer, nodes_in}
use Rattle.typing_conditions.proofs.Inward.{agrees_as, reached_inward, written_inward}
use Rattle.typing_conditions.specs.Judging.{Judgement}
use Rattle.typing_conditions.proofs.Hiding.{keeps_as, keeps_both, settles_as, placed_before, done_on, copy_itself}
use Rattle.typing_conditions.proofs.Stops.{lasts_both}

-- What is done at the end: the level is the outer one again, and of the variables above it exactly those of these names are bound. The names are open nodes of the
-- frame further in, and what is held for the outer level is of at most that level.
pub record GoesOut (F : Frame) (a : Sight) (J : Types) (roots : List ℕ) (held : ℕ → List ℕ) (names : List ℕ) (b d : Sight) : Type 0 where
  pub are_open : (k r : ℕ) → slice_get names k ≡ Some r → IsOpen (inner_frame F a J roots held) b r
  pub held_low : (K : Types) → IsOwn b.nodes K → (n v l o : ℕ) → IsIn (held F.level) n → occurs v (K n) ≡ true → slice_get b.nodes v ≡ Some (Var l o) → l ≢ bound_level → l ≤ F.level
  pub closes : (K : Types) → IsOwn b.nodes K → ClosesAll b.nodes d.nodes K names F.level
  pub sound : IsSound d.nodes
  pub lowered : b.level ≡ suc d.level
  pub types : (i p : ℕ) → d.types i p ≡ b.types i p
  pub noted : (i p : ℕ) → b.noted i p ≡ true → d.noted i p ≡ true
  pub scopes : AreScopesIn b.scopes d.scopes
  pub written : (x : Name) → d.written x ≡ b.written x
  pub reports : d.reports ≡ b.reports
  pub aloud : d.aloud ≡ b.aloud
  pub item : d.item ≡ b.item
  pub fixed : d.fixed ≡ b.fixed

is_in_either : (xs ys : List ℕ) (n : ℕ) → IsIn (xs ++ ys) n → IsIn xs n ⊎ IsIn ys n
is_in_either [] ys n h = inr h
is_in_either (x ∷ xs) ys n (zero, e) = inl (zero, e)
is_in_either (x ∷ xs) ys n (suc k, e) = elim (is_in_either xs ys n (k, e)) [ inl (j, f) ↦ inl (suc j, f) | inr f ↦ inr f ]

-- A group was typed one level further in, and its names were closed: b is the state a with the level raised, c that at the end, d the one after closing.
pub record GroupTyped (F : Frame) (scope : Scope) (asks : Asks) (a b c d : Sight) (J : Types) (roots names : List ℕ) (held : ℕ → List ℕ) (G H : Letters) : Type 0 where
  pub goes_in : GoesIn F a J roots held
  pub only : OnlyLevel a b
  pub raised : b.level ≡ suc a.level
  pub part : Carried (inner_frame F a J roots held) scope asks b G c H
  pub out : GoesOut F a J roots held names c d
  pub inside_item : 1 ≤ F.level
  pub written : KnowsWritten F a

module _ {F : Frame} {scope : Scope} {asks : Asks} {a b c d : Sight} {J : Types} {roots names : List ℕ} {held : ℕ → List ℕ} {G H : Letters} (l : GroupTyped F scope asks a b c d J roots names held G H) where
  -- the frame further in
  abbrev pub I : Frame
  I = inner_frame F a J roots held

  -- the state at the end of the group is reached in it
  pub inner_reached : Reaches I c
  inner_reached = l.part.stays.reaches (reached_inward l.goes_in l.only l.raised)

  -- and the written type variables are open there
  pub written_there : KnowsWritten I c
  written_there = l.part.stays.writes (written_inward l.goes_in l.only l.raised l.written)

  any_closing : (K : Types) × IsOwn c.nodes K × ClosesAll c.nodes d.nodes K names F.level
  any_closing = let own = own_of c.nodes inner_reached.sound in (own.0, own.1, l.out.closes own.0 own.1)

  -- types that are the nodes' own now were so before the closing
  pub before_closing : (M : Types) → IsOwn d.nodes M → IsOwn c.nodes M
  before_closing M own = let (K, own_k, closes) = any_closing in own_reopened c.nodes d.nodes K M names F.level own closes

  -- the roots are a context at the outer level
  pub group_context : IsContext a.nodes J roots F.level
  group_context = record {
    inside = λ k r e. (l.goes_in.are_roots k r e).inside;
    low = λ v k o h e free. let i = in_any v J roots h in (l.goes_in.are_roots i.place i.node i.at).low J l.goes_in.own v k o i.occurs e free;
  }

  -- the names are nodes within the roots
  pub name_nodes : (k r : ℕ) → slice_get names k ≡ Some r → (r < length c.nodes) × Within a.nodes roots r
  name_nodes k r e = let o = l.out.are_open k r e in (o.inside, o.within)

  -- what is held for the level is low: a node that the frame holds, or that of a written type variable
  pub low_held : (M : Types) → IsOwn c.nodes M → (v l o : ℕ) → stands_in_any M (inner_reached.held F.level) v ≡ true → slice_get c.nodes v ≡ Some (Var l o) → l ≢ bound_level → l ≤ F.level
  low_held M own v k o h e free =
      let i = in_any v M (inner_reached.held F.level) h in
      elim (inner_reached.only_held F.level i.node (below F.level) (i.place, i.at)) [
        | inl there ↦ l.out.held_low M own i.node v k o there i.occurs e free
        | inr (le, (x, f)) ↦
            let w = (written_there.each x i.node f).free M own v i.occurs in
            let s : k ≡ w.level = same_node c.nodes v k o w.level w.scope e w.at in
            let y = w.low in
            let z = min_one (suc F.level) in omega arith
      ]
    where
      below : (n : ℕ) → n < suc n
      below n = omega arith

      min_one : (n : ℕ) → min n 1 ≤ 1
      min_one n = grind arith

  -- with the closing the group touches only what stands in its roots
  pub group_local : (M : Types) → IsOwn d.nodes M → Local a.nodes d.nodes J M roots inner_reached.held F.level
  group_local M own =
      let own_c = before_closing M own in
      local_closed a.nodes c.nodes d.nodes J M roots names inner_reached.held F.level l.goes_in.own own_c group_context (inner_reached.local M own_c) name_nodes (low_held M own_c) (l.out.closes M own_c)

  refines : (M : Types) → IsOwn d.nodes M → Refines a.nodes d.nodes M
  refines M own = (group_local M own).refines

  -- what is within the roots is within those of the frame around
  pub within_outer : {n : ℕ} → Reaches F a → Within a.nodes roots n → Within F.start F.roots n
  within_outer r w = record {
    each = λ S reg. w.each S (record {
      closed = (r.local J l.goes_in.own).closed S reg;
      has = λ k m e. (l.goes_in.are_roots k m e).within.each S reg;
      made = λ n le. reg.made n (let len = (r.local J l.goes_in.own).refines.longer in omega arith);
    });
  }

  reaches : Reaches F a → Reaches F d
  reaches r = record {
    frame = r.frame;
    sound = l.out.sound;
    level = one_less (sym l.out.lowered ∙ l.part.stays.level ∙ l.raised) ∙ r.level;
    held = λ k. r.held k ++ inner_reached.held k;
    only_held = λ k n lt i. elim (is_in_either (r.held k) (inner_reached.held k) n i) [ inl h ↦ outer_held k n (r.only_held k n lt h) | inr h ↦ inner_held k n lt (inner_reached.only_held k n (let x = lt in omega arith) h) ];
    local = λ M own. local_then F.start a.nodes d.nodes F.types J M F.roots roots r.held (λ k. r.held k ++ inner_reached.held k) F.level r.frame.own l.goes_in.own own (r.local J l.goes_in.own)
        (local_more a.nodes d.nodes J M roots roots inner_reached.held (λ k. r.held k ++ inner_reached.held k) F.level F.level own (omega arith) (λ k m e. (k, e)) (λ k u lt h. any_after u M (r.held k) (inner_reached.held k) h) (group_local M own))
        (λ k m e. let root = l.goes_in.are_roots k m e in (root.within, root.inside)) (λ k u lt h. any_before u M (r.held k) (inner_reached.held k) h);
  }
    where
      one_less : {m n : ℕ} → suc m ≡ suc n → m ≡ n
      one_less {m} {n} e = omega arith

      kept_written : (x : Name) (n : ℕ) → a.written x ≡ Some n → d.written x ≡ Some n
      kept_written x n e = l.out.written x ∙ l.part.stays.written x n (l.only.written x ∙ e)

      outer_held : (k n : ℕ) → IsHeld F a k n → IsHeld F d k n
      outer_held k n (inl h) = inl h
      outer_held k n (inr (le, (x, e))) = inr (le, (x, kept_written x n e))

      inner_held : (k n : ℕ) → k < F.level → IsHeld I c k n → IsHeld F d k n
      inner_held k n lt (inl h) = inl (l.goes_in.keeps_held k n lt h)
      inner_held k n lt (inr (le, (x, e))) = inr (le, (x, l.out.written x ∙ e))

  -- a node further in whose variables are of at most a level that isn't above the outer one stays open
  pub open_outward : (level m : ℕ) → level ≤ F.level → Reaches F a → IsOpenAt I c level m → IsOpenAt F d level m
  open_outward level m le r o = record {
    reached = reaches r;
    inside = let (K, own_k, closes) = any_closing in let q = closes.len in let i = o.inside in omega arith;
    within = within_outer r o.within;
    free = λ M own v h.
        let f = o.free M (before_closing M own) v h in
        let closes = l.out.closes M (before_closing M own) in
        record { level = f.level; scope = f.scope; free = f.free; low = f.low; at = closes.stays v (λ i k e free above stands. let s : i ≡ f.level = same_node c.nodes v i k f.level f.scope e f.at in let y = f.low in absurd (omega arith)) ∙ f.at };
  }

  writes : KnowsWritten F a → KnowsWritten F d
  writes k = record {
    each = λ x m e. open_at x m (sym (l.out.written x) ∙ e) k;
    names = written_there.names;
    listed = λ x m e. written_there.listed x m (sym (l.out.written x) ∙ e);
  }
    where
      lower : (l : ℕ) → 1 ≤ l → min (suc l) 1 ≡ min l 1
      lower l le = grind arith

      min_left : (l m : ℕ) → min l m ≤ l
      min_left l m = grind arith

      open_at : (x : Name) (m : ℕ) → c.written x ≡ Some m → KnowsWritten F a → IsOpenAt F d (min F.level 1) m
      open_at x m e k = open_outward (min F.level 1) m (min_left F.level 1) l.goes_in.reached (subst (λ l. IsOpenAt I c l m) (lower F.level l.inside_item) (written_there.each x m e))

  -- what was there stays
  pub group_stays : Stays F a G d H
  group_stays = record {
    longer = let q : length b.nodes ≡ length a.nodes = ap length l.only.nodes in let len = l.part.stays.longer in let (K, own_k, closes) = any_closing in let r = closes.len in omega arith;
    loose = λ V h. subst (λ ns. Loose ns V) l.only.nodes (l.part.stays.loose V (let (K, own_k, closes) = any_closing in closed_loose c.nodes d.nodes K names F.level closes V h));
    reads = λ V h. subst (λ ns. IsReading ns V) l.only.nodes (l.part.stays.reads V (let (K, own_k, closes) = any_closing in reads_closed c.nodes d.nodes K V names F.level closes h));
    reaches = reaches;
    writes = writes;
    refines = λ r. refines;
    recorded = λ i k m e. l.out.types i k ∙ l.part.stays.recorded i k m (l.only.types i k ∙ e);
    keeps = keeps_both (keeps_as l.only.noted l.only.scopes l.only.types) (keeps_both l.part.stays.keeps (keeps_as l.out.noted l.out.scopes l.out.types));
    written = λ x m e. l.out.written x ∙ l.part.stays.written x m (l.only.written x ∙ e);
    given = l.part.stays.given;
    opens = l.part.stays.opens;
    inside = λ i. closed_inside (l.part.stays.inside (record {
      recorded = λ j k m e. subst (λ ns. IsNode ns m) (sym l.only.nodes) (i.recorded j k m (sym (l.only.types j k) ∙ e));
      written = λ x m e. subst (λ ns. IsNode ns m) (sym l.only.nodes) (i.written x m (sym (l.only.written x) ∙ e));
      given = subst (AreNodes G) (sym l.only.nodes) i.given;
    }));
    aloud = l.out.aloud ∙ l.part.stays.aloud ∙ l.only.aloud;
    item = l.out.item ∙ l.part.stays.item ∙ l.only.item;
    level = one_less (sym l.out.lowered ∙ l.part.stays.level ∙ l.raised);
    fixed = l.out.fixed ∙ l.part.stays.fixed ∙ l.only.fixed;
  }
    where
      one_less : {m n : ℕ} → suc m ≡ suc n → m ≡ n
      one_less {m} {n} e = omega arith

      same_length : length c.nodes ≤ length d.nodes
      same_length = let (K, own_k, closes) = any_closing in let r = closes.len in omega arith

      closed_inside : IsInside c H → IsInside d H
      closed_inside = inside_longer c d l.out.types l.out.written same_length

  enters : (V : Types) (x : Context) → Enters F scope a G V x → Enters I scope b G V x
  enters V x e = record {
    under = e.under;
    inside = record {
      recorded = λ j k m f. subst (λ ns. IsNode ns m) (sym l.only.nodes) (e.inside.recorded j k m (sym (l.only.types j k) ∙ f));
      written = λ y m f. subst (λ ns. IsNode ns m) (sym l.only.nodes) (e.inside.written y m (sym (l.only.written y) ∙ f));
      given = subst (AreNodes G) (sym l.only.nodes) e.inside.given;
    };
    fits = subst (λ ns. Fits ns V) (sym l.only.nodes) e.fits;
    agrees = agrees_as a b l.only.types l.only.written e.agrees;
  }

  -- what is there at the end of the group lasts when its names are closed
  lasts_out : (L : Letters) → Lasts c L d L
  lasts_out L = record {
    longer = let (K, own_k, closes) = any_closing in let r = closes.len in omega arith;
    loose = λ V h. let (K, own_k, closes) = any_closing in closed_loose c.nodes d.nodes K names F.level closes V h;
    recorded = λ i k n e. l.out.types i k ∙ e;
    written = λ y n e. l.out.written y ∙ e;
    letters = λ k x e. inr (copy_itself L k x e);
  }

  -- A demand that was reported further in was so in the frame around.
  stop_out : {L : Letters} {judged : List Judgement} {r : Report} {i : ℕ} → Stop I scope asks b G c L judged i r → Stop F scope asks a G d L judged i r
  stop_out {L} {judged} {r} s = record {
    state = s.state;
    letters = s.letters;
    found = s.found;
    wanted = s.wanted;
    names = s.names;
    site = s.site;
    before = s.before;
    judged_so = s.judged_so;
    counts = s.counts;
    shows = s.shows;
    unbound = s.unbound;
    up_to = record {
      longer = let q : length b.nodes ≡ length a.nodes = ap length l.only.nodes in let m = s.up_to.longer in omega arith;
      reads = λ V h. subst (λ ns. IsReading ns V) l.only.nodes (s.up_to.reads V h);
      recorded = λ i k n e. s.up_to.recorded i k n (l.only.types i k ∙ e);
      written = λ y n e. s.up_to.written y n (l.only.written y ∙ e);
      given = s.up_to.given;
      inside = λ i. s.up_to.inside (inside_there i);
      sound = λ q. s.up_to.sound here;
      bounds = λ q v h. s.up_to.bounds here v (subst (λ ns. is_bound ns v ≡ true) (sym l.only.nodes) h);
      free = λ q k. s.up_to.free here (written_inward l.goes_in l.only l.raised k);
    };
    lasts = lasts_both s.lasts (lasts_out L);
    enters = λ named V x e kept k t at u h.
        let to = s.enters (λ y n f. named y n (l.out.written y ∙ f)) V x (enters V x e) kept k t at u h in
        record { types = to.types; fits = to.fits; before = λ n lt. to.before n (let q : length b.nodes ≡ length a.nodes = ap length l.only.nodes in omega arith); agrees = to.agrees; nodes = to.nodes; asks = to.asks };
    reads = λ q V x at. s.reads here V x (record { under = at.under; reads = at.reads; agrees = at.agrees; named = at.named; unbound = at.unbound; kept = at.kept; known = at.known });
  }
    where
      here : Reaches I b
      here = reached_inward l.goes_in l.only l.raised

      inside_there : IsInside a G → IsInside b G
      inside_there i = record {
        recorded = λ j k m f. subst (λ ns. IsNode ns m) (sym l.only.nodes) (i.recorded j k m (sym (l.only.types j k) ∙ f));
        written = λ y m f. subst (λ ns. IsNode ns m) (sym l.only.nodes) (i.written y m (sym (l.only.written y) ∙ f));
        given = subst (AreNodes G) (sym l.only.nodes) i.given;
      }

  -- A part that was typed one level further in, whose names are closed then, is typed at the outer level.
  pub carried_out : Carried F scope asks a G d H
  carried_out = record {
    stays = group_stays;
    hidden = l.part.hidden;
    settled = settles_as l.part.hidden (keeps_as l.only.noted l.only.scopes l.only.types) (keeps_as l.out.noted l.out.scopes l.out.types) l.part.settled;
    clear = λ known placed. l.part.clear known (placed_before (keeps_as l.out.noted l.out.scopes l.out.types) placed);
    judged = l.part.judged;
    told = l.part.told;
    reports = l.out.reports ∙ l.part.reports ∙ ap (λ rs. rs ++ l.part.told) l.only.reports;
    counted = l.part.counted;
    sound = λ r V x at. l.part.sound (reached_inward l.goes_in l.only l.raised) V x (record {
      under = at.under;
      reads = let (K, own_k, closes) = any_closing in reads_closed c.nodes d.nodes K V names F.level closes at.reads;
      agrees = agrees_as d c (λ i k. sym (l.out.types i k)) (λ y. sym (l.out.written y)) at.agrees;
      hidden_too = at.hidden_too;
      named = named_there at.named;
      unbound = λ k y e v b. at.unbound k y e v (still_bound v b);
      kept = at.kept;
      scopes = at.scopes;
      in_the_end = λ i k env h. at.in_the_end i k env (l.out.scopes i k env h);
      types = at.types;
      types_too = λ i k m h. at.types_too i k m (l.out.types i k ∙ h);
    });
    follows = λ r V x at. l.part.follows (reached_inward l.goes_in l.only l.raised) V x (record {
      under = at.under;
      reads = let (K, own_k, closes) = any_closing in reads_closed c.nodes d.nodes K V names F.level closes at.reads;
      agrees = agrees_as d c (λ i k. sym (l.out.types i k)) (λ y. sym (l.out.written y)) at.agrees;
      hidden_too = at.hidden_too;
      named = named_there at.named;
      unbound = λ k y e v b. at.unbound k y e v (still_bound v b);
      kept = at.kept;
      scopes = at.scopes;
      in_the_end = λ i k env h. at.in_the_end i k env (l.out.scopes i k env h);
      types = at.types;
      types_too = λ i k m h. at.types_too i k m (l.out.types i k ∙ h);
    });
    complete = λ named V x e h. elim (l.part.complete (named_there named) V x (enters V x e) h) [
      | inl goes ↦ inl (record {
        same = goes.same;
        types = goes.types;
        on = record {
          fits = let (K, own_k, closes) = any_closing in fits_closed c.nodes d.nodes K goes.types names F.level closes goes.on.fits;
          before = λ n lt. goes.on.before n (let q : length b.nodes ≡ length a.nodes = ap length l.only.nodes in omega arith);
          agrees = agrees_as c d l.out.types l.out.written goes.on.agrees;
        };
        hidden_too = let (K, own_k, closes) = any_closing in (nodes_in l.part.hidden c.nodes d.nodes (let q = closes.len in omega arith) goes.hidden_too.0, goes.hidden_too.1);
      })
      | inr short ↦ inr short
    ];
    first = λ named k V x e h. l.part.first (named_there named) k V x (enters V x e) h;
    stops = λ k r e kind. stop_out (l.part.stops k r e kind);
  }
    where
      named_there : HoldsWritten scope d → HoldsWritten scope c
      named_there named x m e = named x m (l.out.written x ∙ e)

      -- what was bound before the closing is bound after it
      still_bound : (v : ℕ) → is_bound c.nodes v ≡ true → is_bound d.nodes v ≡ true
      still_bound v b =
          let (scope, at) = bound_cell c.nodes v b in
          let (K, own_k, closes) = any_closing in
          bound_there d.nodes v (Var bound_level scope)
          (closes.stays v (λ l o e free above stands. absurd (free (same_node c.nodes v l o bound_level scope e at))) ∙ at) refl

  -- what it hides is what the part does, so the rows of letters are done still
  pub done_out : {ys : Letters} → AreDone c l.part.hidden ys → AreDone d carried_out.hidden ys
  unfolding carried_out
  done_out h = done_on (keeps_as l.out.noted l.out.scopes l.out.types) (λ x k. k) h
