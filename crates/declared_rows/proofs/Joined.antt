-- Open nodes that some types that fit make one: they are made one, one pair after the other, and scopes are the least.
use Rattle.std.proofs.Common.{◌≡◌, ◌∙◌, ◌⊎◌, inl, inr, ℕ, suc, List, [], ◌∷◌, length, map, Some, refl, sym, ap, subst, arith}
use Rattle.std.specs.Prelude.{slice_get}
use Rattle.std.proofs.lemmas.Bool.{eqb-true}
use Rattle.std.proofs.lemmas.Option.{slice_get_within}
use Rattle.type_model.specs.Types.{occurs}
use Rattle.type_model.specs.Substitutions.{apply}
use Rattle.type_model.proofs.Applying.{eqb_same}
use Rattle.type_nodes.specs.Nodes.{Node, Var, IsSound}
use Rattle.type_nodes.specs.Readings.{Types, Fits}
use Rattle.type_nodes.proofs.Lists.{one_element}
use Rattle.level_unify.specs.Solutions.{Loose}
use Rattle.level_unify.specs.Unification.{Unified, NeverAlike}
use Rattle.level_unify.proofs.Unified.{fits_under, under_fits}
use Rattle.level_unify.proofs.Variants.{stands_occurs}
use Rattle.typing_conditions.specs.Locals.{IsOwn, Refines}
use Rattle.typing_conditions.specs.Sights.{Sight}
use Rattle.typing_conditions.specs.Frames.{Frame, Reaches, IsOpen, AreOpen}
use Rattle.typing_conditions.specs.Carrying.{Stays}
use Rattle.typing_conditions.proofs.Own.{own_of}
use Rattle.typing_conditions.proofs.Roots.{own_reads}
use Rattle.typing_conditions.proofs.Stays.{stays_refl, stays_trans}
use Rattle.typing_conditions.proofs.Steps.{stands_after, stands_before}
use Rattle.typing_conditions.proofs.Framing.{no_bound, open_on}
use Rattle.typing_conditions.proofs.Equals.{unified_stays}
use Rattle.typing_conditions.proofs.Refusing.{never_fit}
use Rattle.typing_rows.proofs.Filled.{JoinsTwo, JoinsEach}
use Rattle.declared_rows.specs.Unknowns.{LeastScopes}

-- where nothing is done scopes are as before
pub least_none : (nodes : List Node) → LeastScopes nodes nodes
least_none nodes = record {
  bound = λ J own m l o v l' o' e free e' free' h.
      let s = eqb-true v m (ap (occurs v) (sym (own.vars m l o e)) ∙ h) in
      let f : Var l' o' ≡ Var l o = one_element (Var l' o') (Var l o) (slice_get nodes m) (ap (slice_get nodes) (sym s) ∙ e') e in
      let g : o' ≡ o = cc in omega arith;
  source = λ J own v l o e free. (v, l, e, free, ap (occurs v) (own.vars v l o e) ∙ eqb_same v);
}

-- one step after another
pub least_then : (old mid new : List Node) (K : Types) → IsOwn mid K → Refines old mid K → ((V : Types) → Loose new V → Loose mid V) → LeastScopes old mid → LeastScopes mid new → LeastScopes old new
least_then old mid new K between refines tight one two = record {
  bound = λ J own m l o v l' o' e free e' free' h.
      let (w, p, q) = stands_before mid K J between (tight J own.loose) m v h in
      let f = refines.frees m w (record { level = l; scope = o; at = e; free = free }) p in
      let x = one.bound K between m l o w f.level f.scope e free f.at f.free p in
      let y = two.bound J own w f.level f.scope v l' o' f.at f.free e' free' q in omega arith;
  source = λ J own v l o e free.
      let (w, k, at, free', q) = two.source J own v l o e free in
      let (m, j, at', free'', p) = one.source K between w k o at free' in
      (m, j, at', free'', stands_after mid K J between (tight J own.loose) m w v p q);
}

-- two nodes were made one
pub least_unified : {old new : List Node} {a b : ℕ} → Unified old new a b → LeastScopes old new
least_unified {old} {new} one = record {
  bound = λ J own m l o v l' o' e free e' free' h. (one.scope_least v l' o' e' free').bound m l o e free (own.stands m v (let n = one.len in let p = slice_get_within old m (Var l o) e in omega arith) h);
  source = λ J own v l o e free.
      let (m, k, scope, at, free', stands, is) = (one.scope_least v l o e free).source in
      (m, k, at ∙ ap (λ x. Some (Var k x)) (sym is), free', stands_occurs new J v m own.loose (own.vars v l o e) stands);
}

-- Nodes were made one with others, one by one.
pub record JoinedAll (F : Frame) (a b : Sight) (W : Types) (ps qs : List ℕ) : Type 0 where
  pub fits : Fits b.nodes W
  pub stays : Stays F a [] b []
  pub sound : IsSound b.nodes
  pub len : length b.nodes ≡ length a.nodes
  pub least : LeastScopes a.nodes b.nodes
  pub solved : (V : Types) → Loose b.nodes V → map V ps ≡ map V qs

-- two nodes that types that fit make one
one_joined : {F : Frame} {a b : Sight} {p q : ℕ} (W : Types) → Fits a.nodes W → W p ≡ W q → IsOpen F a p → IsOpen F a q → JoinsTwo a b p q → Unified a.nodes b.nodes p q
one_joined {F} {a} {b} {p} {q} W fits same h k j = by (j.joined h k)
  where
    by : Unified a.nodes b.nodes p q ⊎ NeverAlike a.nodes p q → Unified a.nodes b.nodes p q
    by (inl one) = one
    by (inr never) = absurd (never_fit a.nodes p q h.reached.sound h.inside k.inside (no_bound h h) (no_bound k k) never W fits same)

-- types that fit then give both one type
unified_gives : {old new : List Node} {a b : ℕ} → IsSound new → Unified old new a b → (V : Types) → Loose new V → V a ≡ V b
unified_gives {old} {new} {a} {b} sound one V loose = let (J, own) = own_of new sound in own.comes V loose a ∙ ap (apply V) (one.read J (own_reads new J own)).1 ∙ sym (own.comes V loose b)

-- Open nodes that types that fit make one are made one.
pub all_joined : {F : Frame} {a b : Sight} (W : Types) (ps qs : List ℕ) → Reaches F a → Fits a.nodes W → map W ps ≡ map W qs → AreOpen F a ps → AreOpen F a qs → JoinsEach a b ps qs → JoinedAll F a b W ps qs
all_joined {F} {a} {b} W [] [] reached fits same hs ks j = subst (λ z. JoinedAll F a z W [] []) (sym j) (record {
  fits = fits;
  stays = stays_refl;
  sound = reached.sound;
  len = refl;
  least = least_none a.nodes;
  solved = λ V loose. refl;
})
all_joined W [] (q ∷ qs) reached fits same hs ks j = absurd j
all_joined W (p ∷ ps) [] reached fits same hs ks j = absurd j
all_joined {F} {a} {b} W (p ∷ ps) (q ∷ qs) reached fits same hs ks (mid, two, rest) =
    let head : W p ≡ W q = cc in
    let tail : map W ps ≡ map W qs = cc in
    let one = one_joined W fits head (hs 0 p refl) (ks 0 q refl) two in
    let stays = unified_stays {G = []} two.sound two.rest two.tight (hs 0 p refl) (ks 0 q refl) one in
    let fits' = under_fits (λ v. 0) mid.nodes W (one.fits (λ v. 0) W (fits_under a.nodes W fits) head) in
    let more = all_joined W ps qs (stays.reaches reached) fits' tail (λ k m e. open_on stays (hs (suc k) m e)) (λ k m e. open_on stays (ks (suc k) m e)) rest in
    let (K, own) = own_of mid.nodes two.sound in
    record {
      fits = more.fits;
      stays = stays_trans stays more.stays;
      sound = more.sound;
      len = more.len ∙ one.len;
      least = least_then a.nodes mid.nodes b.nodes K own (stays.refines reached K own) more.stays.loose (least_unified one) more.least;
      solved = λ V loose.
          let mid_fits = more.stays.loose V loose in
          let f = unified_gives two.sound one V mid_fits in
          let g = more.solved V loose in (λ i. f i ∷ g i);
    }
