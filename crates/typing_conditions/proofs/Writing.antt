-- A type variable that is written for the first time in an item: a new variable of a low level stands for it from then on.
use Rattle.std.proofs.Common.{◌≡◌, ◌∙◌, inl, inr, ℕ, zero, suc, ◌<◌, ◌≤◌, min, true, List, [], ◌∷◌, length, Some, refl, sym, ap, subst, arith, append-nil}
use Rattle.std.specs.Prelude.{slice_get}
use Rattle.std.proofs.lemmas.Bool.{eqb-true}
use Rattle.std.proofs.lemmas.Option.{slice_get_within}
use Rattle.type_model.specs.Types.{Typ, occurs}
use Rattle.type_model.specs.Limits.{no_scope}
use Rattle.type_model.proofs.Applying.{eqb_same}
use Rattle.signature_model.specs.Declarations.{Name}
use Rattle.signature_model.specs.Matching.{IsKnown}
use Rattle.typing_model.specs.Contexts.{Context}
use Rattle.type_nodes.specs.Nodes.{Var}
use Rattle.type_nodes.specs.Readings.{Types}
use Rattle.type_nodes.specs.States.{Change, state}
use Rattle.type_nodes.specs.Changes.{Makes}
use Rattle.level_unify.specs.Copies.{Extends}
use Rattle.typing_conditions.specs.Locals.{IsOwn, Refines, Local, stands_in_any}
use Rattle.typing_conditions.specs.Standing.{IsIn}
use Rattle.typing_conditions.proofs.Own.{own_of}
use Rattle.typing_conditions.proofs.Regions.{any_in, in_any}
use Rattle.typing_conditions.proofs.Steps.{local_then, refines_made}
use Rattle.typing_conditions.proofs.Instances.{local_node, new_within}
use Rattle.typing_conditions.specs.Sights.{Sight, Letters, SameAt}
use Rattle.typing_conditions.specs.Frames.{Frame, Reaches, IsHeld, IsOpenAt}
use Rattle.typing_conditions.specs.Steps.{Writes}
use Rattle.typing_conditions.specs.Carrying.{Scope, Enters, GoesOn, Stays, CarriedTo}
use Rattle.typing_conditions.proofs.Framing.{open_from, open_next, open_lower, sound_made}
use Rattle.typing_conditions.proofs.First.{first_none, nothing_met}
use Rattle.typing_conditions.proofs.Making.{with_type, at_own, at_older, in_any_scope, makes_extends, made_here, loose_before, reading_before, fits_made}
use Rattle.typing_conditions.proofs.Meaning.{given_same, nodes_in}
use Rattle.typing_conditions.proofs.Hiding.{keeps_as, settles_none, none_doubtful}
use Rattle.typing_conditions.proofs.Copies.{copied_same}
use Rattle.typing_conditions.proofs.Stops.{none_stop}

low_level : (l m : ℕ) → min l 1 ≤ m → m < l → 1 ≤ m
low_level l m le lt = grind arith

min_left : (l m : ℕ) → min l m ≤ l
min_left l m = grind arith

-- The new variable is of level 1, or of the item's own level.
module _ (F : Frame) (a b : Sight) (s t : List Change) (n : ℕ) (x : Name) (r : Reaches F a) (made : Makes (state a.nodes s) (state b.nodes t) n (Var (min F.level 1) no_scope)) (w : Writes a b x n) where
  there : slice_get b.nodes n ≡ Some (Var (min F.level 1) no_scope)
  there = made_here (state a.nodes s) (state b.nodes t) n (Var (min F.level 1) no_scope) made

  -- it is held from the level 1 on
  abbrev held : ℕ → List ℕ
  held zero = r.held zero
  held (suc k) = n ∷ r.held (suc k)

  held_more : (k i : ℕ) → IsIn (r.held k) i → IsIn (held k) i
  held_more zero i h = h
  held_more (suc k) i (j, e) = (suc j, e)

  held_one : (K : Types) → IsOwn b.nodes K → (k : ℕ) → 1 ≤ k → stands_in_any K (held k) n ≡ true
  held_one K own zero le = absurd (omega arith)
  held_one K own (suc k) le = any_in n K (n ∷ r.held (suc k)) zero n refl (ap (occurs n) (own.vars n (min F.level 1) no_scope there) ∙ eqb_same n)

  more : (K : Types) (k u : ℕ) → stands_in_any K (r.held k) u ≡ true → stands_in_any K (held k) u ≡ true
  more K k u h = let i = in_any u K (r.held k) h in let (j, e) = held_more k i.node (i.place, i.at) in any_in u K (held k) j i.node e i.occurs

  none_there : (k c : ℕ) → slice_get [] k ≡ Some c → ⊥
  none_there k c e = cc

  local : (K : Types) → IsOwn b.nodes K → Local F.start b.nodes F.types K F.roots held F.level
  local K own =
      let before = own_of a.nodes r.sound in
      let step : Local a.nodes b.nodes before.0 K [] held F.level = local_node (state a.nodes s) (state b.nodes t) n (Var (min F.level 1) no_scope) before.0 K held F.level before.1 own made
      (λ k l o lt e le. held_one K own k (low_level F.level k (let f : min F.level 1 ≡ l = cc in omega arith) lt)) in
      local_then F.start a.nodes b.nodes F.types before.0 K F.roots [] r.held held F.level r.frame.own before.1 own (r.local before.0 before.1) step (λ k d e. absurd (none_there k d e)) (λ k u lt h. more K k u h)

  reached : Reaches F b
  reached = record {
    frame = r.frame;
    sound = sound_made a b r.sound made (λ k d lt. absurd (omega arith));
    level = w.level ∙ r.level;
    held = held;
    only_held = λ k i lt h. only_held k i lt h;
    local = local;
  }
    where
      still : (k i : ℕ) → IsHeld F a k i → IsHeld F b k i
      still k i (inl h) = inl h
      still k i (inr (le, (y, e))) = inr (le, (y, w.before y i e))

      only_held : (k i : ℕ) → k < F.level → IsIn (held k) i → IsHeld F b k i
      only_held zero i lt h = still zero i (r.only_held zero i lt h)
      only_held (suc k) i lt (zero, e) = let f : n ≡ i = cc in inr (omega arith, (x, w.now ∙ ap (λ (j : ℕ). Some j) f))
      only_held (suc k) i lt (suc j, e) = still (suc k) i (r.only_held (suc k) i lt (j, e))

  refines : Reaches F a → (K : Types) → IsOwn b.nodes K → Refines a.nodes b.nodes K
  refines q K own = let e = makes_extends (state a.nodes s) (state b.nodes t) n (Var (min F.level 1) no_scope) made in refines_made a.nodes b.nodes K own (record { longer = e.longer; node = e.node })

  -- the node may be unified
  pub written_open : IsOpenAt F b (min F.level 1) n
  written_open = open_from reached (λ K own. record {
    inside = slice_get_within b.nodes n (Var (min F.level 1) no_scope) there;
    within = new_within F.start F.roots n (let before = own_of a.nodes r.sound in let l = (r.local before.0 before.1).refines.longer in let e = made.added.number in omega arith);
    free = λ v o.
        let same = eqb-true v n (ap (occurs v) (sym (own.vars n (min F.level 1) no_scope there)) ∙ o) in
        let le = min_left F.level 1 in
        let lt = r.frame.free in
        record { level = min F.level 1; scope = no_scope; at = ap (slice_get b.nodes) same ∙ there; free = λ e. absurd (omega (arith, le, lt, e)); low = omega arith };
  })

  older : (V : Types) (y : Typ) → SameAt a.nodes V (with_type V n y)
  older V y m lt = at_older V n y m (let e = made.added.number in omega arith)

  -- From then on the type variable has the type of the node.
  pub variable_written : (scope : Scope) (G : Letters) → CarriedTo F scope (λ c. []) a G b G (λ ch. ch.written F.owner x) n
  variable_written scope G = record {
    carried = record {
      stays = stays;
      hidden = [];
      settled = settles_none;
      clear = λ known placed. none_doubtful;
      judged = [];
      told = [];
      reports = w.reports ∙ sym (append-nil a.reports);
      counted = refl;
      sound = λ r V c l. nothing_met c.kept;
      follows = λ r V c l. refl;
      complete = λ named V c e h. inl (record { same = refl; types = with_type V n (c.chosen.written F.owner x); on = goes V c e; hidden_too = (tt, tt) });
      first = λ named k V c e h. first_none k c;
      stops = none_stop;
    };
    means = record { open_node = open_lower (min_left F.level 1) written_open; is = λ V ch loose g. g.written x n w.now };
  }
    where
      extends : Extends a.nodes b.nodes
      extends = makes_extends (state a.nodes s) (state b.nodes t) n (Var (min F.level 1) no_scope) made

      stays : Stays F a G b G
      stays = record {
        longer = extends.longer;
        loose = λ V h. loose_before a.nodes b.nodes V extends h;
        reads = λ V h. reading_before a.nodes b.nodes V extends h;
        reaches = λ q. reached;
        writes = λ k. record {
          each = λ y m e. elim (w.others y m e) [ inl (_, same) ↦ subst (IsOpenAt F b (min F.level 1)) (sym same) written_open | inr f ↦ open_next (λ q. reached) refines (k.each y m f) ];
          names = x ∷ k.names;
          listed = λ y m e. elim (w.others y m e) [ inl (one, _) ↦ (zero, ap (λ (z : Name). Some z) (sym one)) | inr f ↦ (let i = k.listed y m f in (suc i.0, i.1)) ];
        };
        refines = refines;
        recorded = λ i k y e. w.types i k ∙ e;
        keeps = keeps_as w.noted w.scopes w.types;
        written = w.before;
        given = λ V ch h. h;
        opens = copied_same G;
        inside = λ h. record {
          recorded = λ i k y e. let j = h.recorded i k y (sym (w.types i k) ∙ e) in let l = extends.longer in omega arith;
          written = λ y m e. elim (w.others y m e) [ inl (_, same) ↦ subst (λ j. j < length b.nodes) (sym same) written_open.inside | inr f ↦ (let j = h.written y m f in let l = extends.longer in omega arith) ];
          given = nodes_in G a.nodes b.nodes extends.longer h.given;
        };
        aloud = w.aloud;
        item = w.item;
        level = w.level;
        fixed = w.fixed;
      }

      goes : (V : Types) (c : Context) → Enters F scope a G V c → GoesOn F a b G V (with_type V n (c.chosen.written F.owner x)) c.chosen
      goes V c e =
          let y = c.chosen.written F.owner x in
          let same = older V y in
          let g = e.agrees in
          record {
            fits = fits_made (state a.nodes s) (state b.nodes t) n (Var (min F.level 1) no_scope) r.sound made V y e.fits (λ open_here. in_any_scope (with_type V n y n));
            before = same;
            agrees = record {
              recorded = λ j k m f. let f' = sym (w.types j k) ∙ f in g.recorded j k m f' ∙ sym (same m (e.inside.recorded j k m f'));
              known = λ j k m f. let f' = sym (w.types j k) ∙ f in subst IsKnown (sym (same m (e.inside.recorded j k m f'))) (g.known j k m f');
              written = λ z m f. elim (w.others z m f) [
                | inl (one, here) ↦ ap (c.chosen.written F.owner) one ∙ sym (at_own V n y) ∙ ap (with_type V n y) (sym here)
                | inr f' ↦ g.written z m f' ∙ sym (same m (e.inside.written z m f'))
              ];
              given = given_same G a.nodes V (with_type V n y) c.chosen e.inside.given same g.given;
            };
          }
