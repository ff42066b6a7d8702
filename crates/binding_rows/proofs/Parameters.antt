-- Parameters, each a pattern with names of its own, and the function over them.
use Rattle.std.proofs.Common.{◌≡◌, ◌∙◌, ◌++◌, ℕ, List, [], ◌∷◌, refl, sym, ap, subst, append_assoc, append-nil}
use Rattle.tree_model.specs.Rows.{efun_row}
use Rattle.tree_model.specs.Slots.{is_operand}
use Rattle.tree_model.specs.Trees.{Place, Tree}
use Rattle.type_model.specs.Types.{Typ}
use Rattle.row_parts.specs.Numbered.{operands_in, filled_in}
use Rattle.typing_model.specs.Contexts.{Choice, with_names}
use Rattle.typing_model.specs.Parts.{Expression, Pattern, expression_in}
use Rattle.typing_model.specs.Patterns.{all_names}
use Rattle.typing_model.specs.Bindings.{matched_apart}
use Rattle.typing_model.specs.Expressions.{expression_row, is_of, fun_expression}
use Rattle.type_nodes.specs.Nodes.{Arrow, IsNode}
use Rattle.type_nodes.specs.Changes.{Makes}
use Rattle.env_table.specs.declared.entries.Entry.{Entry}
use Rattle.typing_state.specs.declared.parts.Parts.{Parts}
use Rattle.typing_state.specs.Goes.{Goes, OnlyStore}
use Rattle.typing_conditions.specs.Sights.{Letters}
use Rattle.typing_conditions.specs.Frames.{Frame}
use Rattle.typing_conditions.specs.Meanings.{Means, AllMean, none_mean, one_means}
use Rattle.typing_conditions.specs.Carrying.{Scope, Carried, CarriedTo}
use Rattle.typing_conditions.specs.Surroundings.{Surrounds}
use Rattle.typing_conditions.proofs.Recording.{ends_same}
use Rattle.typing_conditions.proofs.Carried.{carried_refl, carried_trans, carried_as, done_then, done_as, done_last}
use Rattle.typing_conditions.proofs.Meaning.{means_on, all_mean_on, all_mean_more}
use Rattle.typing_conditions.proofs.Surrounding.{surrounds_on}
use Rattle.typing_conditions.proofs.Hiding.{done_none, done_both, owns_done}
use Rattle.typing_steps.specs.States.{is_aloud, sight}
use Rattle.typing_steps.specs.Typing.{as_declared, TypesTo, TypesRow}
use Rattle.typing_steps.specs.Warning.{OnlyWarnings}
use Rattle.typing_steps.proofs.Making.{arrow_over}
use Rattle.operand_laws.specs.Formed.{row_of, is_needed, IsFormed}
use Rattle.operand_laws.specs.Operands.{number_of, parts_of, expression_of}
use Rattle.operand_laws.proofs.Sorts.{patterns_stand}
use Rattle.typing_rows.specs.Asked.{row_expression}
use Rattle.typing_rows.proofs.Terms.{one, as_row}
use Rattle.pattern_rows.specs.Bounds.{Bind, AllBound, none_bound}
use Rattle.pattern_rows.specs.Contracts.{patterns_of, types_at, MatchesTo}
use Rattle.pattern_rows.proofs.Naming.{all_bound_on, all_bound_both}
use Rattle.binding_rows.specs.CaseScopes.{with_bound, names_added}
use Rattle.binding_rows.specs.Parameters.{TypesParameters, MatchesApartFirst, ParametersSoFar, arrows_by, MakesArrows}
use Rattle.binding_rows.proofs.Scopes.{surrounds_bound, among_names, names_both, only_warned}
use Rattle.binding_rows.proofs.Typed.{arrows_same}
use Rattle.pattern_rows.proofs.Opened.{done_grouped}

-- a parameter, and the warnings of its pattern
pub parameter_typed : (a b d : Parts) (env : List Entry) (p : Pattern) (added : List Bind) (m : ℕ) → MatchesTo a b env p [] added m → OnlyWarnings b d → MatchesTo a d env p [] added m
parameter_typed a b d env p added m matched warned = record {
  opens = matched.opens;
  typed = λ aloud F scope G s.
      let x = matched.typed aloud F scope G s in
      let w = only_warned b d {F = F} {scope = scope} {G = matched.opens ++ G} warned in
      record {
        typed = record { carried = carried_as (λ c. append-nil (p.matched c [])) (carried_trans x.typed.carried w); means = means_on w.stays x.typed.means };
        done = done_as _ (carried_trans x.typed.carried w) (done_then x.typed.carried w x.done);
        names = all_bound_on w.stays x.names;
      };
}

-- no parameter yet
pub parameters_none : (a : Parts) (env : List Entry) (ps : List Pattern) (ms : List ℕ) → ms ≡ [] → ParametersSoFar a a env env ps ps ms
parameters_none a env ps ms none = record {
  added = [];
  scope = refl;
  typed = λ aloud F scope G s. record {
    done = λ c. [];
    types = [];
    bounds = [];
    own = [];
    carried = carried_refl;
    rows_done = done_none;
    means = subst (AllMean F (sight a) G []) (sym none) none_mean;
    names = none_bound;
    asks = λ c. refl;
    gives = refl;
    binds = refl;
  };
}

-- one parameter more
apart_more : (a b d : Parts) (env : List Entry) (all left rest : List Pattern) (p : Pattern) (added more : List Bind) (ms longer : List ℕ) (m : ℕ) → left ≡ p ∷ rest → longer ≡ ms ++ m ∷ [] → Goes a b → MatchesApartFirst a b env all left added ms →
    MatchesTo b d env p [] more m → MatchesApartFirst a d env all rest (added ++ more) longer
apart_more a b d env all left rest p added more ms longer m split grown goes first one = λ aloud F scope G s.
    let x = first aloud F scope G s in
    let y = one.typed (ap is_aloud goes.telling ∙ aloud) F scope (x.own ++ G) (surrounds_on x.carried.stays s) in
    let type = λ (ch : Choice). ch.type_at p.node in
    let same = sym (append_assoc one.opens x.own G) in
    record {
      done = λ c. x.done c ++ p.matched c [];
      types = x.types ++ type ∷ [];
      bounds = x.bounds ++ p.names;
      own = one.opens ++ x.own;
      carried = subst (λ H. Carried F scope (λ c. x.done c ++ p.matched c []) (sight a) G (sight d) H) same (carried_trans x.carried y.typed.carried);
      rows_done = done_grouped same (carried_trans x.carried y.typed.carried) (done_both (done_last x.carried y.typed.carried y.done) (done_then x.carried y.typed.carried x.rows_done));
      means = subst (AllMean F (sight d) ((one.opens ++ x.own) ++ G) (x.types ++ type ∷ [])) (sym grown)
          (subst (λ H. AllMean F (sight d) H (x.types ++ type ∷ []) (ms ++ m ∷ [])) same (all_mean_more (all_mean_on y.typed.carried.stays x.means) y.typed.means));
      names = subst (λ H. AllBound F (sight d) H (x.bounds ++ p.names) (added ++ more)) same (all_bound_both (all_bound_on y.typed.carried.stays x.names) y.names);
      asks = λ c. x.asks c ∙ ap (λ ps. x.done c ++ matched_apart c ps) split ∙ sym (append_assoc (x.done c) (p.matched c []) (matched_apart c rest));
      gives = x.gives ∙ ap (λ ps. x.types ++ types_at ps) split ∙ sym (append_assoc x.types (type ∷ []) (types_at rest));
      binds = x.binds ∙ ap (λ ps. x.bounds ++ all_names ps) split ∙ sym (append_assoc x.bounds p.names (all_names rest));
    }

-- the same with the names in scope after it
pub parameters_more : (a b d : Parts) (env inner further : List Entry) (all left rest : List Pattern) (p : Pattern) (more : List Bind) (ms longer : List ℕ) (m : ℕ) → left ≡ p ∷ rest → longer ≡ ms ++ m ∷ [] → further ≡ names_added more inner → Goes a b →
    ParametersSoFar a b env inner all left ms → MatchesTo b d env p [] more m → ParametersSoFar a d env further all rest longer
parameters_more a b d env inner further all left rest p more ms longer m split grown brought goes first one = record {
  added = first.added ++ more;
  scope = brought ∙ ap (names_added more) first.scope ∙ sym (names_both first.added more env);
  typed = apart_more a b d env all left rest p first.added more ms longer m split grown goes first.typed one;
}

-- all parameters
pub parameters_all : (a b : Parts) (env inner : List Entry) (all left : List Pattern) (ms : List ℕ) → left ≡ [] → ParametersSoFar a b env inner all left ms → TypesParameters a b env inner all ms
parameters_all a b env inner all left ms none first = record {
  added = first.added;
  scope = first.scope;
  typed = λ aloud F scope G s.
      let x = first.typed aloud F scope G s in
      record {
        own = x.own;
        carried = carried_as (λ c. sym (append-nil (x.done c)) ∙ ap (λ ps. x.done c ++ matched_apart c ps) (sym none) ∙ sym (x.asks c)) x.carried;
        done = done_as _ x.carried x.rows_done;
        means = subst (λ ts. AllMean F (sight b) (x.own ++ G) ts ms) (sym (append-nil x.types) ∙ ap (λ ps. x.types ++ types_at ps) (sym none) ∙ sym x.gives) x.means;
        names = subst (λ bs. AllBound F (sight b) (x.own ++ G) bs first.added) (sym (append-nil x.bounds) ∙ ap (λ ps. x.bounds ++ all_names ps) (sym none) ∙ sym x.binds) x.names;
      };
}

-- no arrow yet
pub arrows_none : (a : Parts) (to : ℕ) → MakesArrows a a [] to to
arrows_none a to = λ F scope G types t all has. by types all has
  where
    by : {F : Frame} {scope : Scope} {G : Letters} {t : Choice → Typ} (types : List (Choice → Typ)) → AllMean F (sight a) G types [] → Means F (sight a) G t to → CarriedTo F scope (λ c. []) (sight a) G (sight a) G (arrows_by types t) to
    by [] all has = record { carried = carried_refl; means = has }
    by (x ∷ types) all has = elim all [ ]

-- one arrow more, before the others
pub arrows_more : (a b d : Parts) (ms : List ℕ) (to x m whole : ℕ) → MakesArrows a b ms to m → (IsNode b.store.nodes x → IsNode b.store.nodes m → Makes b.store d.store whole (Arrow x m)) → OnlyStore b d → MakesArrows a d (x ∷ ms) to whole
arrows_more a b d ms to x m whole first made rest = λ F scope G types t all has. by types all has
  where
    by : {F : Frame} {scope : Scope} {G : Letters} {t : Choice → Typ} (types : List (Choice → Typ)) → AllMean F (sight a) G types (x ∷ ms) → Means F (sight a) G t to → CarriedTo F scope (λ c. []) (sight a) G (sight d) G (arrows_by types t) whole
    by [] all has = elim all [ ]
    by {F} {scope} {G} {t} (u ∷ types) (one_means h hs) has =
        let y = first F scope G types t hs has in
        let z = arrow_over b d {scope = scope} (means_on y.carried.stays h) y.means made rest in
        record { carried = carried_trans y.carried z.carried; means = z.means }

-- fun p p -> e: the body is typed among the names of the parameters
pub fun_typed : (a b d f : Parts) (env inner : List Entry) (n : ℕ) (at : Place) (ps : List Pattern) (e : Expression) (ms : List ℕ) (to m : ℕ) → TypesParameters a b env inner ps ms → Goes a b → TypesTo b d inner (λ c. e.typed c) (λ ch. ch.type_at e.node) to →
    MakesArrows d f ms to m → TypesRow a f env (λ c. (fun_expression n at ps e).typed c) n m
fun_typed a b d f env inner n at ps e ms to m parameters goes body made = λ aloud F scope G its s.
    let x = parameters.typed aloud F scope G s in
    let names = subst (λ q. Surrounds as_declared F (sight b) (x.own ++ G) q (with_bound (all_names ps) scope)) (sym parameters.scope) (surrounds_bound x.names (surrounds_on x.carried.stays s)) in
    let y = body (ap is_aloud goes.telling ∙ aloud) F (with_bound (all_names ps) scope) (x.own ++ G) names in
    let z = made F scope (x.own ++ G) (types_at ps) (λ ch. ch.type_at e.node) (all_mean_on y.carried.stays x.means) y.means in
    let bodies = among_names x.names y.carried in
    let front = carried_trans x.carried bodies in
    let whole = carried_as (λ c. append-nil (matched_apart c ps ++ e.typed (with_names c (all_names ps)))) (carried_trans front z.carried) in
    record {
      own = x.own;
      type = arrows_by (types_at ps) (λ ch. ch.type_at e.node);
      first = λ c. matched_apart c ps ++ e.typed (with_names c (all_names ps));
      ends = λ c. is_of c n (arrows_by (types_at ps) (λ ch. ch.type_at e.node) c.chosen);
      all = λ c. ap (λ t. matched_apart c ps ++ e.typed (with_names c (all_names ps)) ++ is_of c n t) (arrows_same c ps (λ ch. ch.type_at e.node));
      typed = record { carried = whole; means = z.means };
      owns = λ all_known. owns_done (done_as _ (carried_trans front z.carried) (done_then front z.carried (done_then x.carried bodies x.done)));
      end = ends_same n (arrows_by (types_at ps) (λ ch. ch.type_at e.node));
    }

-- fun p p -> e, over the operands of the code
pub fun_term : (i n : ℕ) (at : Place) (t : Tree) → IsFormed n t → row_of t ≡ efun_row → row_expression i n at t ≡ fun_expression (number_of i n) at (patterns_of i (operands_in n t 1)) (expression_of i (filled_in n t 3))
unfolding expression_row is_operand is_needed
fun_term i n at t formed row =
    as_row i n t formed at efun_row row ∙ ap (λ ps. fun_expression (number_of i n) at ps (expression_in 3 (parts_of i n t))) (patterns_stand i n t 1 formed (ap (λ q. is_operand q 1) row)) ∙
    ap (λ e. fun_expression (number_of i n) at (patterns_of i (operands_in n t 1)) e) (one i n t formed efun_row 3 row refl refl)
