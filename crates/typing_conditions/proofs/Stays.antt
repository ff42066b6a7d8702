-- What stays, through one call after another.
use Rattle.std.proofs.Common.{◌∙◌, ◌∷◌, ◌++◌, refl, arith, ℕ}
use Rattle.typing_model.specs.Contexts.{Choice, Context}
use Rattle.type_nodes.specs.Nodes.{Var, bound_level, IsNode}
use Rattle.type_nodes.specs.Readings.{Types}
use Rattle.level_unify.proofs.Variants.{bound_cell, bound_there}
use Rattle.typing_conditions.proofs.Own.{own_of}
use Rattle.typing_conditions.proofs.Steps.{refines_none, refines_then}
use Rattle.typing_conditions.specs.Sights.{Sight, Key, Letters, Agrees}
use Rattle.typing_conditions.specs.Frames.{Frame, Reaches}
use Rattle.typing_conditions.specs.Carrying.{Scope, HoldsWritten, HoldsUnbound, Stays, GoesOn, Enters}
use Rattle.typing_conditions.proofs.Judged.{nodes_right}
use Rattle.typing_conditions.proofs.Hiding.{keeps_same, keeps_both}
use Rattle.typing_conditions.proofs.Copies.{copied_same, copied_both, copied_more}

-- where nothing is done everything stays
pub stays_refl : {F : Frame} {a : Sight} {G : Letters} → Stays F a G a G
stays_refl {F} {a} {G} = record {
  longer = omega arith;
  loose = λ V h. h;
  reads = λ V h. h;
  refines = λ r K own. refines_none a.nodes K own;
  reaches = λ r. r;
  writes = λ k. k;
  recorded = λ i p m h. h;
  keeps = keeps_same;
  written = λ x m h. h;
  given = λ V ch h. h;
  opens = copied_same G;
  inside = λ h. h;
  aloud = refl;
  item = refl;
  level = refl;
  fixed = refl;
}

-- one call after another
pub stays_trans : {F : Frame} {a b c : Sight} {G H K : Letters} → Stays F a G b H → Stays F b H c K → Stays F a G c K
stays_trans {F} {a} {b} {c} {G} {H} {K} p q = record {
  longer = let l = p.longer in let m = q.longer in omega arith;
  loose = λ V h. p.loose V (q.loose V h);
  reads = λ V h. p.reads V (q.reads V h);
  refines = λ r K own.
      let mid = own_of b.nodes (p.reaches r).sound in
      refines_then a.nodes b.nodes c.nodes mid.0 K mid.1 own (p.refines r mid.0 mid.1) (q.refines (p.reaches r) K own);
  reaches = λ r. q.reaches (p.reaches r);
  writes = λ k. q.writes (p.writes k);
  recorded = λ i k m h. q.recorded i k m (p.recorded i k m h);
  keeps = keeps_both p.keeps q.keeps;
  written = λ x m h. q.written x m (p.written x m h);
  given = λ V ch h. p.given V ch (q.given V ch h);
  opens = copied_both G H K p.opens q.opens;
  inside = λ h. q.inside (p.inside h);
  aloud = q.aloud ∙ p.aloud;
  item = q.item ∙ p.item;
  level = q.level ∙ p.level;
  fixed = q.fixed ∙ p.fixed;
}

-- letters that a row has no more use for need not stay
pub stays_closed : {F : Frame} {a b : Sight} (own : Letters) {G : Letters} → Stays F a G b (own ++ G) → Stays F a G b G
stays_closed {F} {a} {b} own {G} s = record {
  longer = s.longer;
  loose = s.loose;
  reads = s.reads;
  reaches = s.reaches;
  writes = s.writes;
  refines = s.refines;
  recorded = s.recorded;
  keeps = s.keeps;
  written = s.written;
  given = λ V ch h. h;
  opens = copied_same G;
  inside = λ i. let j = s.inside i in record { recorded = j.recorded; written = j.written; given = nodes_right own G b.nodes j.given };
  aloud = s.aloud;
  item = s.item;
  level = s.level;
  fixed = s.fixed;
}

-- a choice that agrees with what there is agrees with what there was
pub agrees_before : {F : Frame} {a b : Sight} {G H : Letters} → Stays F a G b H → {owner : ℕ} {V : Types} {ch : Choice} → Agrees owner b H V ch → Agrees owner a G V ch
agrees_before s {owner} {V} {ch} h = record {
  recorded = λ i p m e. h.recorded i p m (s.recorded i p m e);
  known = λ i p m e. h.known i p m (s.recorded i p m e);
  written = λ x m e. h.written x m (s.written x m e);
  given = s.given V ch h.given;
}

-- what a scope holds of the type variables that are written now it held of those that were written before
pub named_before : {F : Frame} {a b : Sight} {G H : Letters} (scope : Scope) → Stays F a G b H → HoldsWritten scope b → HoldsWritten scope a
named_before scope s named x m e = named x m (s.written x m e)

-- what is bound stays bound, so what isn't bound now wasn't before
pub bounds_before : {F : Frame} {a b : Sight} {G H : Letters} (scope : Scope) (ch : Choice) → Stays F a G b H → Reaches F a → HoldsUnbound F scope b ch → HoldsUnbound F scope a ch
bounds_before {a = a} {b = b} scope ch s r unbound k x e v bound =
    let (scope, at) = bound_cell a.nodes v bound in
    let own = own_of b.nodes (s.reaches r).sound in
    unbound k x e v (bound_there b.nodes v (Var bound_level scope) ((s.refines r own.0 own.1).bounds v scope at) refl)

-- types that go on enter the next state
pub enters_next : {F : Frame} {scope : Scope} {a b : Sight} {G H : Letters} {V W : Types} {c : Context} → Stays F a G b H → Enters F scope a G V c → GoesOn F a b H V W c.chosen → Enters F scope b H W c
enters_next s e on = record { under = e.under; inside = s.inside e.inside; fits = on.fits; agrees = on.agrees }

-- types that go on twice go on
pub goes_further : {F : Frame} {a b c : Sight} {G H K : Letters} {V W U : Types} {ch : Choice} → Stays F a G b H → GoesOn F a b H V W ch → GoesOn F b c K W U ch → GoesOn F a c K V U ch
goes_further s p q = record { fits = q.fits; before = λ n lt. q.before n (let m = s.longer in omega arith) ∙ p.before n lt; agrees = q.agrees }

-- one letter more may be given, for a node of the store
pub stays_opened : {F : Frame} {a : Sight} {G : Letters} (key : Key) {m : ℕ} → IsNode a.nodes m → Stays F a G a ((key, m) ∷ G)
stays_opened {F} {a} {G} key {m} node = record {
  longer = omega arith;
  loose = λ V h. h;
  reads = λ V h. h;
  reaches = λ r. r;
  writes = λ k. k;
  refines = λ r K own. refines_none a.nodes K own;
  recorded = λ i p n h. h;
  keeps = keeps_same;
  written = λ x n h. h;
  given = λ V ch h. h.1;
  opens = copied_more (key, m) G;
  inside = λ i. record { recorded = i.recorded; written = i.written; given = (node, i.given) };
  aloud = refl;
  item = refl;
  level = refl;
  fixed = refl;
}
