-- Letters that are open around a part, beside those of the part; and recorded names that stay.
use Rattle.std.proofs.Common.{◌++◌, ℕ, List, [], ◌∷◌}
use Rattle.env_table.specs.declared.entries.Entry.{Entry}
use Rattle.typing_conditions.specs.Sights.{Sight, Letters, AreNodes}
use Rattle.typing_conditions.specs.Frames.{Frame}
use Rattle.typing_conditions.specs.Carrying.{Stays}
use Rattle.record_steps.specs.Recording.{HasScope}
use Rattle.typing_conditions.proofs.Judged.{given_right, nodes_left, nodes_right, nodes_both}
use Rattle.typing_conditions.proofs.Stays.{stays_refl, stays_trans, stays_opened}
use Rattle.typing_conditions.proofs.Copies.{copied_after}

-- the names in scope that are recorded for a node stay so
pub scope_on : {F : Frame} {a b : Sight} {G H : Letters} {n : ℕ} {env : List Entry} → Stays F a G b H → HasScope a n env → HasScope b n env
scope_on {env = env} s h = record { item = h.item; place = h.place; number = h.number; at = s.keeps.scopes h.item h.place env h.at }

-- all that a state has stays where letters are opened for nodes of it
pub stays_more : {F : Frame} {a : Sight} {G : Letters} (K : Letters) → AreNodes K a.nodes → Stays F a G a (K ++ G)
stays_more [] h = stays_refl
stays_more ((key, m) ∷ K) h = stays_trans (stays_more K h.1) (stays_opened key h.0)

-- what stays among letters that are open in the middle stays without them
pub stays_without : {F : Frame} {a b : Sight} (front K more G : Letters) → AreNodes K a.nodes → Stays F a (front ++ (K ++ G)) b (more ++ (front ++ (K ++ G))) → Stays F a (front ++ G) b (more ++ (front ++ G))
stays_without {a = a} {b = b} front K more G nodes s = record {
  longer = s.longer;
  loose = s.loose;
  reads = s.reads;
  refines = s.refines;
  reaches = s.reaches;
  writes = s.writes;
  recorded = s.recorded;
  keeps = s.keeps;
  written = s.written;
  given = λ V ch g. given_right V ch more (front ++ G) g;
  opens = copied_after more (front ++ G);
  inside = λ i.
      let there = nodes_both front (K ++ G) a.nodes (nodes_left front G a.nodes i.given) (nodes_both K G a.nodes nodes (nodes_right front G a.nodes i.given)) in
      let j = s.inside (record { recorded = i.recorded; written = i.written; given = there }) in
      let back = nodes_right more (front ++ (K ++ G)) b.nodes j.given in
      record {
        recorded = j.recorded;
        written = j.written;
        given = nodes_both more (front ++ G) b.nodes (nodes_left more (front ++ (K ++ G)) b.nodes j.given)
            (nodes_both front G b.nodes (nodes_left front (K ++ G) b.nodes back) (nodes_right K G b.nodes (nodes_right front (K ++ G) b.nodes back)));
      };
  aloud = s.aloud;
  item = s.item;
  level = s.level;
  fixed = s.fixed;
}
