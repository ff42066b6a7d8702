-- A right side by its parts: its parameters, the type that is written, and its body, which has that type.
use Rattle.std.proofs.Common.{◌≡◌, ◌∙◌, ◌++◌, ℕ, List, [], ◌∷◌, true, Option, Some, None, refl, sym, ap, subst, append_assoc}
use Rattle.tree_model.specs.Trees.{Place}
use Rattle.type_model.specs.Types.{Typ}
use Rattle.typing_model.specs.Demands.{site, equal}
use Rattle.typing_model.specs.Contexts.{Choice, Context, ask, tell, with_names}
use Rattle.typing_model.specs.Parts.{Expression, Pattern, TypeExpression, Binding}
use Rattle.typing_model.specs.Patterns.{all_names}
use Rattle.typing_model.specs.Bindings.{matched_apart, read_annotation, has_annotation, right_side}
use Rattle.env_table.specs.declared.entries.Entry.{Entry}
use Rattle.typing_state.specs.declared.parts.Parts.{Parts}
use Rattle.typing_state.specs.Goes.{Goes, OnlyIndex}
use Rattle.typing_state.specs.Notes.{NotedNameless}
use Rattle.typing_conditions.specs.Sights.{own, number_in, Letters}
use Rattle.typing_conditions.specs.Frames.{Frame}
use Rattle.typing_conditions.specs.Meanings.{Means, AllMean}
use Rattle.typing_conditions.specs.Carrying.{Scope, Carried, CarriedTo, SeesScope}
use Rattle.typing_conditions.specs.Surroundings.{Surrounds}
use Rattle.typing_conditions.specs.Hiding.{AreDone}
use Rattle.typing_conditions.proofs.Answering.{then_to, then_made}
use Rattle.typing_conditions.proofs.Carried.{carried_refl, carried_trans, carried_as, done_then, done_as, done_last}
use Rattle.typing_conditions.proofs.Meaning.{means_on, all_mean_on}
use Rattle.typing_conditions.proofs.Surrounding.{surrounds_on, surrounds_sees, sees_on}
use Rattle.typing_conditions.proofs.Hiding.{done_none, done_both}
use Rattle.typing_steps.specs.States.{is_aloud, sight}
use Rattle.typing_steps.specs.Typing.{as_declared, TypesTo, AsksEqual}
use Rattle.typing_steps.proofs.Still.{plain_noted}
use Rattle.typing_rows.specs.TypeContracts.{ReadsTo}
use Rattle.pattern_rows.specs.Contracts.{types_at}
use Rattle.pattern_rows.proofs.Naming.{all_bound_on}
use Rattle.binding_rows.specs.CaseScopes.{with_bound}
use Rattle.binding_rows.specs.Cases.{MeansIf}
use Rattle.binding_rows.specs.Parameters.{TypesParameters, arrows_by, MakesArrows}
use Rattle.binding_rows.proofs.Scopes.{surrounds_bound, among_names}
use Rattle.binding_rows.proofs.Cases.{means_if_on}
use Rattle.binding_rows.specs.Rights.{written_by, right_by, right_parts_ask, has_written, ReadsAnnotation, MakesWhole, TypesRightBody, TypesRightParts, TypesRight}
use Rattle.pattern_rows.proofs.Opened.{grouped_to_hides}

-- no type is written
pub annotation_none : (a : Parts) (env : List Entry) → ReadsAnnotation a a env None None
annotation_none a env = λ aloud F scope G s. record { own = []; carried = carried_refl; done = done_none; means = tt }

-- a type is written
pub annotation_some : (a b : Parts) (env : List Entry) (w : TypeExpression) (m : ℕ) → ReadsTo a b env (λ c. w.read c) w.node m → ReadsAnnotation a b env (Some w) (Some m)
annotation_some a b env w m read = λ aloud F scope G s. let x = read aloud F scope G s in record { own = (own w.node, m) ∷ []; carried = x.carried; done = x.done; means = x.means }

-- without a written type the binding's type is over that of the body
pub whole_plain : (a b : Parts) (env : List Entry) (e : Expression) (ms : List ℕ) (right m : ℕ) → MakesArrows a b ms right m → MakesWhole a b env e None ms right m
whole_plain a b env e ms right m made = λ aloud F scope G n o types its sees has all is. by n o has all is
  where
    by : {F : Frame} {scope : Scope} {G : Letters} {types : List (Choice → Typ)} (n : ℕ) (o : Option TypeExpression) → MeansIf F (sight a) G (written_by o) None → AllMean F (sight a) G types ms → Means F (sight a) G (λ ch. ch.type_at e.node) right →
        CarriedTo F scope (λ c. has_written c.chosen n e o) (sight a) G (sight b) G (arrows_by types (right_by o e)) m
    by {F} {scope} {G} {types} n None has all is = made F scope G types (λ ch. ch.type_at e.node) all is
    by n (Some w) has all is = absurd has

-- with one the body has it, and the binding's type is over it
pub whole_written : (a b d : Parts) (env : List Entry) (e : Expression) (at : Place) (written : ℕ) (ms : List ℕ) (right m : ℕ) → e.at ≡ at → AsksEqual a b env at right written → MakesArrows b d ms written m → MakesWhole a d env e (Some written) ms right m
whole_written a b d env e at written ms right m place asked made = λ aloud F scope G n o types its sees has all is. by n its sees aloud o has all is
  where
    by : {F : Frame} {scope : Scope} {G : Letters} {types : List (Choice → Typ)} (n : ℕ) → scope.own n ≡ true → SeesScope F scope (sight a) G env → is_aloud a.telling ≡ true → (o : Option TypeExpression) → MeansIf F (sight a) G (written_by o) (Some written) → AllMean F (sight a) G types ms →
        Means F (sight a) G (λ ch. ch.type_at e.node) right → CarriedTo F scope (λ c. has_written c.chosen n e o) (sight a) G (sight d) G (arrows_by types (right_by o e)) m
    by n its sees aloud None has all is = absurd has
    by {F} {scope} {G} {types} n its sees aloud (Some w) has all is =
        let x = asked aloud F scope G (site n 0) (λ ch. ch.type_at e.node) (λ ch. ch.type_at w.node) its sees is has in
        let y = subst (λ p. Carried F scope (λ c. ask n 0 p (equal (c.chosen.type_at e.node) (c.chosen.type_at w.node))) (sight a) G (sight b) G) (sym place) x in
        then_made y (made F scope G types (λ ch. ch.type_at w.node) (all_mean_on x.stays all) (means_on x.stays has))

-- the body, and then the type of the binding
pub body_typed : (a b d : Parts) (env : List Entry) (e : Expression) (written : Option ℕ) (ms : List ℕ) (right m : ℕ) → TypesTo a b env (λ c. e.typed c) (λ ch. ch.type_at e.node) right → Goes a b → MakesWhole b d env e written ms right m →
    TypesRightBody a d env e written ms right m
body_typed a b d env e written ms right m typed goes made = λ aloud F scope G n o types its s has all.
    let x = typed aloud F scope G s in
    let y = made (ap is_aloud goes.telling ∙ aloud) F scope G n o types its (sees_on scope x.carried.stays s.reached (surrounds_sees s)) (means_if_on (written_by o) written x.carried.stays has) (all_mean_on x.carried.stays all) x.means in
    record { typed = then_to x.carried y; right_means = means_on y.carried.stays x.means }

-- A right side by its parts: the body is typed among the names of the parameters.
pub right_typed : (a b d f : Parts) (env inner : List Entry) (ps : List Pattern) (o : Option TypeExpression) (e : Expression) (ms : List ℕ) (written : Option ℕ) (right m : ℕ) → TypesParameters a b env inner ps ms → Goes a b →
    ReadsAnnotation b d env o written → Goes b d → TypesRightBody d f inner e written ms right m → TypesRightParts a f env ps o e right m
right_typed a b d f env inner ps o e ms written right m parameters goes annotation goes' body = λ aloud F scope G n its s.
    let x = parameters.typed aloud F scope G s in
    let loud : is_aloud b.telling ≡ true = ap is_aloud goes.telling ∙ aloud in
    let y = annotation loud F scope (x.own ++ G) (surrounds_on x.carried.stays s) in
    let H = y.own ++ (x.own ++ G) in
    let same = sym (append_assoc y.own x.own G) in
    let here = surrounds_on y.carried.stays (surrounds_on x.carried.stays s) in
    let bound = all_bound_on y.carried.stays x.names in
    let names = subst (λ q. Surrounds as_declared F (sight d) H q (with_bound (all_names ps) scope)) (sym parameters.scope) (surrounds_bound bound here) in
    let z = body (ap is_aloud goes'.telling ∙ loud) F (with_bound (all_names ps) scope) H n o (types_at ps) its names y.means (all_mean_on y.carried.stays x.means) in
    let w : Carried F scope (λ c. e.typed (with_names c (all_names ps)) ++ has_written c.chosen n e o) (sight d) H (sight f) H = among_names bound z.typed.carried in
    let front = carried_trans x.carried y.carried in
    let both = carried_trans front w in
    let here : CarriedTo F scope (λ c. right_parts_ask c n ps o e) (sight a) G (sight f) H (arrows_by (types_at ps) (right_by o e)) m = record {
      carried = carried_as (λ c. sym (append_assoc (matched_apart c ps ++ read_annotation c o) (e.typed (with_names c (all_names ps))) (has_written c.chosen n e o))) both;
      means = z.typed.means;
    } in
    record {
      own = y.own ++ x.own;
      typed = subst (λ K. CarriedTo F scope (λ c. right_parts_ask c n ps o e) (sight a) G (sight f) K (arrows_by (types_at ps) (right_by o e)) m) same here;
      done = subst (λ zs. AreDone (sight f) zs (y.own ++ x.own)) (sym (grouped_to_hides same here)) (done_as _ both (done_then front w (done_both (done_last x.carried y.carried y.done) (done_then x.carried y.carried x.done))));
      right_means = subst (λ K. Means F (sight f) K (λ ch. ch.type_at e.node) right) same z.right_means;
    }

-- a body has the written type
has_same : (c : Context) (x : Binding) (o : Option TypeExpression) → has_written c.chosen x.node x.body o ≡ has_annotation c x o
has_same c x None = refl
has_same c x (Some w) = refl

-- the right side of a binding
pub right_of_parts : (a b : Parts) (env : List Entry) (x : Binding) (right m : ℕ) → TypesRightParts a b env x.parameters x.annotation x.body right m → TypesRight a b env (λ c. right_side c x) x right m
right_of_parts a b env x right m typed = λ aloud F scope G its s.
    let y = typed aloud F scope G x.node its s in
    record {
      own = y.own;
      typed = record {
        carried = carried_as (λ c. ap (λ cs. matched_apart c x.parameters ++ read_annotation c x.annotation ++ x.body.typed (with_names c (all_names x.parameters)) ++ cs) (has_same c x x.annotation)) y.typed.carried;
        means = y.typed.means;
      };
      done = done_as _ y.typed.carried y.done;
      right_means = y.right_means;
    }

-- the same after the record of the binding's number
pub right_recorded : (a b d : Parts) (env : List Entry) (number : ℕ) (x : Binding) (right m : ℕ) → number_in a.item number ≡ x.node → NotedNameless a b number env None → OnlyIndex a b → Goes a b → TypesRight b d env (λ c. right_side c x) x right m →
    TypesRight a d env (λ c. tell x.node c ++ right_side c x) x right m
right_recorded a b d env number x right m place noted rest goes typed = λ aloud F scope G its s.
    let y = plain_noted a b {F = F} {scope = scope} {G = G} number env x.node place aloud noted rest (surrounds_sees s) in
    let z = typed (ap is_aloud goes.telling ∙ aloud) F scope G its (surrounds_on y.stays s) in
    record { own = z.own; typed = record { carried = carried_trans y z.typed.carried; means = z.typed.means }; done = done_last y z.typed.carried z.done; right_means = z.right_means }
