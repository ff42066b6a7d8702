-- Letters that stay open once their row is done, when all that the row has opened are hidden.
use Rattle.std.proofs.Common.{◌≡◌, ◌∙◌, ◌++◌, ℕ, Some, Bool, true, [], inl, inr, sym, ap, subst, append-nil}
use Rattle.std.specs.Prelude.{slice_get}
use Rattle.typing_model.specs.Contexts.{Choice}
use Rattle.type_nodes.specs.Readings.{Types}
use Rattle.typing_conditions.specs.Sights.{Sight, Key, Letters}
use Rattle.typing_conditions.specs.Frames.{Frame}
use Rattle.typing_conditions.specs.Carrying.{Asks, Scope, AreCopied, Stays, GoesOn, Carried}
use Rattle.typing_conditions.specs.Hiding.{marked, is_sure, HasCopy, ArePlaced, NoneDoubtful, AreDone, AreSure, IsAmong, Owns, NotesRow}
use Rattle.typing_conditions.proofs.Judged.{given_left, given_right, given_both, nodes_left, nodes_right, nodes_both}
use Rattle.typing_conditions.proofs.Carried.{hidden_more, carried_trans}
use Rattle.typing_conditions.proofs.Copies.{copied_after, copied_parts}
use Rattle.typing_conditions.proofs.Stops.{lasts_same, stops_end}
use Rattle.typing_conditions.proofs.Hiding.{settles_closed, given_unmarked, copy_itself, copy_first, copy_second, marked_copy, done_copies, placed_before, owns_sure, sure_marked}

-- no letter is among any
pub none_among : (own : Letters) → IsAmong [] own
none_among own = record { given = λ V ch h. tt; inside = λ nodes h. tt }

-- letters are among themselves
pub all_among : (own : Letters) → IsAmong own own
all_among own = record { given = λ V ch h. h; inside = λ nodes h. h }

-- and after others
pub among_after : (more : Letters) {opens own : Letters} → IsAmong opens own → IsAmong opens (more ++ own)
among_after more {opens} {own} h = record { given = λ V ch g. h.given V ch (given_right V ch more own g); inside = λ nodes i. h.inside nodes (nodes_right more own nodes i) }

-- and before others
pub among_before : (more : Letters) {opens own : Letters} → IsAmong opens own → IsAmong opens (own ++ more)
among_before more {opens} {own} h = record { given = λ V ch g. h.given V ch (given_left V ch own more g); inside = λ nodes i. h.inside nodes (nodes_left own more nodes i) }

-- what stays where letters are open stays where only those are that are among them
pub stays_kept : {F : Frame} {a b : Sight} (own opens : Letters) {G : Letters} → IsAmong opens own → Stays F a G b (own ++ G) → Stays F a G b (opens ++ G)
stays_kept {F} {a} {b} own opens {G} among s = record {
  longer = s.longer;
  loose = s.loose;
  reads = s.reads;
  reaches = s.reaches;
  writes = s.writes;
  refines = s.refines;
  recorded = s.recorded;
  keeps = s.keeps;
  written = s.written;
  given = λ V ch h. given_right V ch opens G h;
  opens = copied_after opens G;
  inside = λ i.
      let j = s.inside i in
      record { recorded = j.recorded; written = j.written; given = nodes_both opens G b.nodes (among.inside b.nodes (nodes_left own G b.nodes j.given)) (nodes_right own G b.nodes j.given) };
  aloud = s.aloud;
  item = s.item;
  level = s.level;
  fixed = s.fixed;
}

-- types that go on where letters are open go on where only those are
pub goes_kept : {F : Frame} {a b : Sight} (own opens G : Letters) {V W : Types} {ch : Choice} → IsAmong opens own → GoesOn F a b (own ++ G) V W ch → GoesOn F a b (opens ++ G) V W ch
goes_kept own opens G {V} {W} {ch} among on = record {
  fits = on.fits;
  before = on.before;
  agrees = record {
    recorded = on.agrees.recorded;
    known = on.agrees.known;
    written = on.agrees.written;
    given = given_both W ch opens G (among.given W ch (given_left W ch own G on.agrees.given)) (given_right W ch own G on.agrees.given);
  };
}

-- Of the letters that a row has opened only those are kept that are among them; all are hidden, with a doubt at those that aren't sure.
unfoldable pub carried_kept : {F : Frame} {scope : Scope} {asks : Asks} {a b : Sight} (own opens : Letters) {G : Letters} → IsAmong opens own → (p : Carried F scope asks a G b (own ++ G)) → (F.known ≡ true → ArePlaced b → AreSure a b p.hidden own) → Carried F scope asks a G b (opens ++ G)
carried_kept {F} {scope} {asks} {a} {b} own opens {G} among p are_sure = record {
  stays = stays_kept own opens among p.stays;
  hidden = p.hidden ++ marked test own;
  settled = settles_closed p.hidden own p.settled;
  clear = λ known placed. sure_marked p.hidden (p.clear known placed) (are_sure known placed);
  judged = p.judged;
  told = p.told;
  reports = p.reports;
  counted = p.counted;
  sound = λ r V c l. p.sound r V c (record {
    under = l.under;
    reads = l.reads;
    agrees = record {
      recorded = l.agrees.recorded;
      known = l.agrees.known;
      written = l.agrees.written;
      given = given_both V c.chosen own G (given_unmarked test own V c.chosen (given_right V c.chosen p.hidden (marked test own) l.hidden_too)) (given_right V c.chosen opens G l.agrees.given);
    };
    hidden_too = given_left V c.chosen p.hidden (marked test own) l.hidden_too;
    named = l.named;
    unbound = l.unbound;
    kept = l.kept;
    scopes = l.scopes;
    in_the_end = l.in_the_end;
    types = l.types;
    types_too = l.types_too;
  });
  follows = λ r V c l. p.follows r V c (record {
    under = l.under;
    reads = l.reads;
    agrees = record {
      recorded = l.agrees.recorded;
      known = l.agrees.known;
      written = l.agrees.written;
      given = given_both V c.chosen own G (given_unmarked test own V c.chosen (given_right V c.chosen p.hidden (marked test own) l.hidden_too)) (given_right V c.chosen opens G l.agrees.given);
    };
    hidden_too = given_left V c.chosen p.hidden (marked test own) l.hidden_too;
    named = l.named;
    unbound = l.unbound;
    kept = l.kept;
    scopes = l.scopes;
    in_the_end = l.in_the_end;
    types = l.types;
    types_too = l.types_too;
  });
  complete = λ named V c e h. elim (p.complete named V c e h) [
    | inl goes ↦ inl (record { same = goes.same; types = goes.types; on = goes_kept own opens G among goes.on; hidden_too = hidden_more test p.hidden own G b c.chosen goes.types (p.stays.inside e.inside).given goes.on.agrees.given goes.hidden_too })
    | inr short ↦ inr short
  ];
  first = p.first;
  stops = stops_end p.told (lasts_same b (p.hidden ++ (own ++ G)) ((p.hidden ++ marked test own) ++ (opens ++ G)) copies) p.stops;
}
  where
    test : Key × ℕ → Bool
    test = is_sure a b (p.hidden ++ own)

    -- what was open or hidden is hidden then, or open still
    copies : AreCopied (p.hidden ++ (own ++ G)) ((p.hidden ++ marked test own) ++ (opens ++ G))
    copies = copied_parts p.hidden (own ++ G) ((p.hidden ++ marked test own) ++ (opens ++ G)) (λ k x e. copy_first (p.hidden ++ marked test own) (opens ++ G) (copy_first p.hidden (marked test own) (copy_itself p.hidden k x e)))
        (copied_parts own G ((p.hidden ++ marked test own) ++ (opens ++ G)) (λ k x e. copy_first (p.hidden ++ marked test own) (opens ++ G) (copy_second p.hidden (marked test own) (marked_copy test own k x e)))
        (λ k x e. copy_second (p.hidden ++ marked test own) (opens ++ G) (copy_second opens G (copy_itself G k x e))))

-- each of them is hidden then, and what was hidden before
pub kept_copies : {F : Frame} {scope : Scope} {asks : Asks} {a b : Sight} (own opens : Letters) {G : Letters} (among : IsAmong opens own) (p : Carried F scope asks a G b (own ++ G)) (are_sure : F.known ≡ true → ArePlaced b → AreSure a b p.hidden own) (k : ℕ) (x : Key × ℕ) → slice_get own k ≡ Some x → HasCopy (carried_kept own opens among p are_sure).hidden x
unfolding carried_kept
kept_copies {a = a} {b = b} own opens among p are_sure k x e = copy_second p.hidden (marked (is_sure a b (p.hidden ++ own)) own) (marked_copy (is_sure a b (p.hidden ++ own)) own k x e)

pub kept_hides : {F : Frame} {scope : Scope} {asks : Asks} {a b : Sight} (own opens : Letters) {G : Letters} (among : IsAmong opens own) (p : Carried F scope asks a G b (own ++ G)) (are_sure : F.known ≡ true → ArePlaced b → AreSure a b p.hidden own) (x : Key × ℕ) → HasCopy p.hidden x → HasCopy (carried_kept own opens among p are_sure).hidden x
unfolding carried_kept
kept_hides {a = a} {b = b} own opens among p are_sure x h = copy_first p.hidden (marked (is_sure a b (p.hidden ++ own)) own) h

-- So those that stay open are letters of a row that is done.
pub kept_done : {F : Frame} {scope : Scope} {asks : Asks} {a b : Sight} (own : Letters) {G : Letters} (p : Carried F scope asks a G b (own ++ G)) (are_sure : F.known ≡ true → ArePlaced b → AreSure a b p.hidden own) → NoneDoubtful own → AreDone b (carried_kept own own (all_among own) p are_sure).hidden own
kept_done own p are_sure sure = done_copies sure (kept_copies own own (all_among own) p are_sure)

-- Letters that are open over a row are without doubt after a call that notes it, and does nothing else.
pub noted_sure : {F : Frame} {scope : Scope} {asks : Asks} {a b d : Sight} {G : Letters} {n m : ℕ} (own : Letters) (x : Carried F scope asks a G b (own ++ G)) (y : Carried F scope (λ c. []) b (own ++ G) d (own ++ G)) → y.hidden ≡ [] → NotesRow b d n m →
    Owns n m b x.hidden own → F.known ≡ true → ArePlaced d → AreSure a d (carried_trans x y).hidden own
unfolding carried_trans
noted_sure {a = a} {d = d} own x y none notes owns known placed =
    subst (λ zs. AreSure a d zs own) (sym (ap (λ zs. x.hidden ++ zs) none ∙ append-nil x.hidden)) (owns_sure x.hidden x.stays.keeps x.settled placed (x.clear known (placed_before notes.keeps placed)) notes owns)
