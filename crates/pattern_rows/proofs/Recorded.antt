-- A row of patterns, once its type is recorded, is a matched pattern.
use Rattle.std.proofs.Common.{◌≡◌, ◌∙◌, ◌++◌, ℕ, true, List, [], ◌∷◌, Some, None, refl, sym, ap, subst}
use denote.Ref.{Bor}
use Rattle.tree_model.specs.Trees.{Place, Tree, inner, missing}
use Rattle.signature_model.specs.Declarations.{Name}
use Rattle.syntax_tree.specs.View.{place_of, node_view}
use Rattle.syntax_tree.specs.declared.tree.Node.{Node}
use Rattle.row_parts.specs.declared.slots.Operand.{Operand}
use Rattle.row_parts.specs.Numbered.{numbered, operand_view, part_of}
use Rattle.typing_model.specs.Contexts.{tell_typed}
use Rattle.typing_model.specs.Parts.{Pattern, no_pattern_at}
use Rattle.typing_model.specs.Meanings.{recorded_pattern}
use Rattle.type_terms.specs.declared.types.NodeRef.{NodeRef}
use Rattle.env_table.specs.declared.entries.Entry.{Entry}
use Rattle.env_table.specs.declared.seen.Seen.{Seen}
use Rattle.typing_state.specs.declared.parts.Parts.{Parts}
use Rattle.typing_state.specs.Goes.{Goes, OnlyStore, OnlyIndex}
use Rattle.typing_state.specs.Notes.{Noted, NotedNameless}
use Rattle.typing_state.specs.Types.{MakesVar, any_scope}
use Rattle.typing_conditions.specs.Sights.{Sight, own, Letters, number_in}
use Rattle.typing_conditions.specs.Frames.{Frame}
use Rattle.typing_conditions.specs.Steps.{Records}
use Rattle.typing_conditions.specs.Meanings.{Means}
use Rattle.typing_conditions.specs.Carrying.{Scope, at_node, SeesScope, Carried}
use Rattle.typing_conditions.specs.Hiding.{ArePlaced, AreDone, Owns, IsAmong}
use Rattle.typing_conditions.proofs.Carried.{carried_trans, carried_as, done_then, done_as, owns_then, owns_as, carried_row, row_hides}
use Rattle.typing_conditions.proofs.Hiding.{keeps_same, done_none, done_on, owns_also}
use Rattle.typing_conditions.proofs.Keeping.{none_among, among_after, carried_kept, kept_hides}
use Rattle.typing_conditions.proofs.Framing.{open_on}
use Rattle.typing_conditions.proofs.Recording.{records_stay, here_now}
use Rattle.typing_conditions.proofs.Surrounding.{surrounds_sees, surrounds_at, own_node}
use Rattle.typing_steps.specs.States.{is_aloud, sight}
use Rattle.typing_steps.proofs.Rows.{row_any, var_any}
use Rattle.typing_steps.proofs.Recording.{type_noted, nameless_noted}
use Rattle.operand_laws.specs.Operands.{number_of, pattern_of}
use Rattle.operand_laws.proofs.Standing.{pattern_of_stands}
use Rattle.operand_laws.proofs.Sorts.{pattern_by_row}
use Rattle.typing_rows.proofs.Own.{ends_made, own_recorded, own_sure}
use Rattle.pattern_rows.specs.Bounds.{Bind, none_bound, Adds}
use Rattle.pattern_rows.specs.Contracts.{row_pattern, MatchedTo, MatchesTo, Matches, RowMatched, MatchesRow}
use Rattle.pattern_rows.proofs.Naming.{adds_none}
use Rattle.pattern_rows.proofs.Opened.{done_recorded}

-- the row of a node, once its type is recorded
pub row_recorded : {F : Frame} {scope : Scope} {a b d : Sight} {G : Letters} {p : Pattern} {seen : List Name} {added : List Bind} {n number m : ℕ} {opens : Letters} {env : List Entry} → number_in b.item number ≡ n → p.node ≡ n → RowMatched F (at_node n scope) a G b p seen added n m opens →
    Records b d number m env → SeesScope F scope a G env → MatchedTo F scope a G d (recorded_pattern n p) seen added m opens
row_recorded {F} {scope} {a} {b} {d} {G} {p} {seen} {added} {n} {number} {m} {opens} place node row r sees =
    let own_letters : Letters = (own n, m) ∷ row.row.own in
    let end = ends_made row.row.typed.means row.row.end in
    let both = carried_trans row.row.typed.carried end in
    let ends = carried_as row.row.all both in
    let of_row : Means F b (own_letters ++ G) (λ ch. ch.type_at n) m = record { open_node = row.row.typed.means.open_node; is = λ V ch loose g. g.given.0.is } in
    let noted = own_recorded n place ends of_row r sees in
    let among : IsAmong opens own_letters = among_after ((own n, m) ∷ []) row.among in
    let owned : F.known ≡ true → Owns n m b ends.hidden own_letters = λ known. owns_as row.row.all both (owns_also (own n) refl refl (owns_then row.row.typed.carried end (row.row.owns known))) in
    let sure = λ (known : F.known ≡ true) (placed : ArePlaced d). own_sure own_letters n place ends of_row r sees (owned known) known placed in
    let inside : Carried F (at_node n scope) (λ c. tell_typed n c ++ p.matched c seen) a G d (opens ++ G) = carried_kept own_letters opens among noted sure in
    let whole : Carried F scope (λ c. tell_typed n c ++ p.matched c seen) a G d (opens ++ G) = carried_row n inside in
    let ready : AreDone d whole.hidden opens = subst (λ xs. AreDone d xs opens) (sym (row_hides scope n inside)) (done_on keeps_same (kept_hides own_letters opens among noted sure) (done_recorded n place ends of_row r sees (done_as row.row.all both (done_then row.row.typed.carried end row.done)))) in
    let means : Means F d (opens ++ G) (λ ch. ch.type_at n) m = record {
      open_node = open_on (records_stay {G = opens ++ G} r row.row.typed.means.open_node.inside) row.row.typed.means.open_node;
      is = λ V ch loose g. ap ch.type_at (sym place) ∙ g.recorded b.item number m (here_now r);
    } in
    record {
      typed = record { carried = whole; means = record { open_node = means.open_node; is = λ V ch loose g. ap ch.type_at node ∙ means.is V ch loose g } };
      done = ready;
      names = row.names d (records_stay r row.row.typed.means.open_node.inside) means (λ V ch g. g.known b.item number m (here_now r));
    }

-- A node that is a pattern: its row, and the record of its type.
pub node_matched : (a b d : Parts) (env : List Entry) (number : ℕ) (at : Place) (t : Tree) (ty : NodeRef) (noted_as : Seen) (seen : List Name) (added : List Bind) → noted_as.ty ≡ Some ty → noted_as.env ≡ env → MatchesRow a b env (row_pattern a.item number at t) seen added (number_of a.item number) ty.0 →
    Goes a b → Noted b.telling b d number noted_as → OnlyIndex b d → MatchesTo a d env (pattern_of a.item (numbered number at (inner t))) seen added ty.0
node_matched a b d env number at t ty noted_as seen added is in_scope row goes noted rest = record {
  opens = row.opens;
  typed = λ aloud F scope G s.
      let loud : is_aloud b.telling ≡ true = ap is_aloud goes.telling ∙ aloud in
      let here = pattern_by_row a.item number at t in
      let node : (row_pattern a.item number at t).node ≡ number_of a.item number = sym (ap (λ p. p.node) here) ∙ (pattern_of_stands a.item (numbered number at (inner t))).number in
      subst (λ p. MatchedTo F scope (sight a) G (sight d) p seen added ty.0 row.opens) (sym here)
      (row_recorded (ap (λ i. number_in i number) goes.item) node (row.typed aloud F (at_node (number_of a.item number) scope) G (own_node (number_of a.item number)) (surrounds_at (number_of a.item number) s)) (subst (Records (sight b) (sight d) number ty.0) in_scope (type_noted b d number ty noted_as is loud noted rest)) (surrounds_sees s));
}

-- the same of a node without names of its own
pub nameless_matched : (a b d : Parts) (env : List Entry) (number : ℕ) (at : Place) (t : Tree) (ty : NodeRef) (seen : List Name) (added : List Bind) → MatchesRow a b env (row_pattern a.item number at t) seen added (number_of a.item number) ty.0 →
    Goes a b → NotedNameless b d number env (Some ty) → OnlyIndex b d → MatchesTo a d env (pattern_of a.item (numbered number at (inner t))) seen added ty.0
nameless_matched a b d env number at t ty seen added row goes (names, none, noted) rest = node_matched a b d env number at t ty (record { env = env; ty = Some ty; names = names }) seen added refl refl row goes noted rest

-- the same with the names that are added
pub node_matches : (a d : Parts) (env : List Entry) (number : ℕ) (at : Place) (t : Tree) (names more added : List Bind) (seen then : List Name) (m : ℕ) → Adds names more added seen then (row_pattern a.item number at t).mentions →
    MatchesTo a d env (pattern_of a.item (numbered number at (inner t))) seen added m → Matches a d env (pattern_of a.item (numbered number at (inner t))) names more seen then m
node_matches a d env number at t names more added seen then m adds typed = record {
  added = added;
  adds = subst (λ p. Adds names more added seen then p.mentions) (sym (pattern_by_row a.item number at t)) adds;
  typed = typed;
}

-- A pattern that is there, by its node.
pub operand_matched : (a b : Parts) (env : List Entry) (o : Operand) (nd : Bor Node) (names more : List Bind) (seen then : List Name) (m : ℕ) → o.node ≡ Some nd →
    ((place : Place) → Matches a b env (pattern_of a.item (numbered o.number place (inner (node_view nd.now)))) names more seen then m) → Matches a b env (pattern_of a.item (operand_view o)) names more seen then m
operand_matched a b env o nd names more seen then m there matched =
    let same : numbered o.number (place_of o.span) (inner (node_view nd.now)) ≡ operand_view o = ap (λ x. numbered o.number (place_of o.span) (part_of x o.span)) (sym there) in
    subst (λ x. Matches a b env (pattern_of a.item x) names more seen then m) same (matched (place_of o.span))

-- A pattern that is missing: any type, once that is recorded.
pub missing_matched : (a b d : Parts) (env : List Entry) (o : Operand) (ty : NodeRef) (seen : List Name) → o.node ≡ None → MakesVar a b ty.0 any_scope → OnlyStore a b → Goes a b → NotedNameless b d o.number env (Some ty) → OnlyIndex b d →
    MatchesTo a d env (pattern_of a.item (operand_view o)) seen [] ty.0
missing_matched a b d env o ty seen none made rest goes noted only = record {
  opens = [];
  typed = λ aloud F scope G s.
      let n = number_of a.item o.number in
      let loud : is_aloud b.telling ≡ true = ap is_aloud goes.telling ∙ aloud in
      let r = row_any a b {env = env} n (var_any a b made rest) aloud F (at_node n scope) G (own_node n) (surrounds_at n s) in
      let row : RowMatched F (at_node n scope) (sight a) G (sight b) (no_pattern_at n (place_of o.span)) seen [] n ty.0 [] = record { row = r; among = none_among r.own; done = done_none; names = λ e st h known. none_bound } in
      let same : numbered o.number (place_of o.span) (missing (place_of o.span)) ≡ operand_view o = ap (λ m. numbered o.number (place_of o.span) (part_of m o.span)) (sym none) in
      subst (λ x. MatchedTo F scope (sight a) G (sight d) (pattern_of a.item x) seen [] ty.0 []) same
      (row_recorded (ap (λ i. number_in i o.number) goes.item) refl row (nameless_noted b d o.number env ty loud noted only) (surrounds_sees s));
}

-- The same with the names that are added: there are none.
pub missing_matches : (a b d : Parts) (env : List Entry) (o : Operand) (ty : NodeRef) (names : List Bind) (seen : List Name) → o.node ≡ None → MakesVar a b ty.0 any_scope → OnlyStore a b → Goes a b → NotedNameless b d o.number env (Some ty) → OnlyIndex b d →
    Matches a d env (pattern_of a.item (operand_view o)) names names seen seen ty.0
missing_matches a b d env o ty names seen none made rest goes noted only =
    let same : numbered o.number (place_of o.span) (missing (place_of o.span)) ≡ operand_view o = ap (λ m. numbered o.number (place_of o.span) (part_of m o.span)) (sym none) in
    record {
      added = [];
      adds = subst (λ x. Adds names names [] seen seen (pattern_of a.item x).mentions) same (adds_none names seen);
      typed = missing_matched a b d env o ty seen none made rest goes noted only;
    }
