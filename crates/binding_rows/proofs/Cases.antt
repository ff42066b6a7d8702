-- One case: its pattern, which has the type of what is matched, its guard, which is a bool, and its body, which has the type of the bodies.
use Rattle.std.proofs.Common.{◌≡◌, ◌∙◌, ◌++◌, ℕ, ◌+◌, true, List, [], Option, Some, None, refl, sym, ap, subst, append_assoc, append-nil}
use Rattle.tree_model.specs.Trees.{Place}
use Rattle.type_model.specs.Types.{Typ}
use Rattle.typing_model.specs.Demands.{site, equal}
use Rattle.typing_model.specs.Contexts.{Choice, Context, ask, type_at, tell, with_names}
use Rattle.typing_model.specs.Parts.{Expression, Pattern, Case}
use Rattle.typing_model.specs.BuiltIns.{bool_type}
use Rattle.typing_model.specs.Expressions.{guard_asks, case_asks}
use Rattle.env_table.specs.declared.entries.Entry.{Entry}
use Rattle.typing_state.specs.declared.parts.Parts.{Parts}
use Rattle.typing_state.specs.Goes.{Goes, OnlyIndex}
use Rattle.typing_state.specs.Notes.{NotedNameless}
use Rattle.typing_conditions.specs.Sights.{Sight, number_in, Letters}
use Rattle.typing_conditions.specs.Frames.{Frame}
use Rattle.typing_conditions.specs.Carrying.{Scope, Stays, Carried, CarriedTo}
use Rattle.typing_conditions.specs.Surroundings.{Surrounds}
use Rattle.typing_conditions.proofs.Carried.{carried_refl, carried_trans, carried_as, done_then, done_as, done_last}
use Rattle.typing_conditions.proofs.Meaning.{means_on, means_more}
use Rattle.typing_conditions.proofs.Stays.{stays_trans}
use Rattle.typing_conditions.proofs.Surrounding.{surrounds_on, surrounds_sees, sees_on}
use Rattle.typing_steps.specs.States.{is_aloud, sight}
use Rattle.typing_steps.specs.Typing.{as_declared, TypesTo, AsksEqual}
use Rattle.typing_steps.proofs.Still.{none_idle, carried_idle, untyped_noted, plain_noted}
use Rattle.typing_rows.specs.Contracts.{TypesAs}
use Rattle.pattern_rows.specs.Bounds.{Bind}
use Rattle.pattern_rows.specs.Contracts.{MatchesTo}
use Rattle.pattern_rows.proofs.Naming.{all_bound_on}
use Rattle.binding_rows.specs.CaseScopes.{with_bound, names_added}
use Rattle.binding_rows.specs.Cases.{type_by, MeansIf, has_if_known, parts_of_case_ask, MatchesAs, TypesGuard, BodyCarried, TypesBody, TypesCaseParts, TypesCase}
use Rattle.binding_rows.proofs.Scopes.{surrounds_bound, among_names}

-- a node that has a type, where there is one, still does
pub means_if_on : {F : Frame} {a b : Sight} {G H : Letters} (type : Option (Choice → Typ)) (m : Option ℕ) → Stays F a G b H → MeansIf F a G type m → MeansIf F b H type m
means_if_on None None s h = tt
means_if_on None (Some m) s h = absurd h
means_if_on (Some t) None s h = absurd h
means_if_on (Some t) (Some m) s h = means_on s h

-- a pattern, and then the demand that it has a type
pub matches_as : (a b d : Parts) (env : List Entry) (p : Pattern) (at : Place) (added : List Bind) (found wanted : ℕ) → p.at ≡ at → MatchesTo a b env p [] added found → Goes a b → AsksEqual b d env at found wanted → MatchesAs a d env p added wanted
matches_as a b d env p at added found wanted place matched goes asked = λ aloud F scope G n k t its s has.
    let x = matched.typed aloud F scope G s in
    let H = matched.opens ++ G in
    let y = asked (ap is_aloud goes.telling ∙ aloud) F scope H (site n k) (λ ch. ch.type_at p.node) t its (sees_on scope x.typed.carried.stays s.reached (surrounds_sees s)) x.typed.means (means_on x.typed.carried.stays has) in
    let z = subst (λ l. Carried F scope (λ c. ask n k l (equal (type_at c p.node) (t c.chosen))) (sight b) H (sight d) H) (sym place) y in
    record { own = matched.opens; carried = carried_trans x.typed.carried z; done = done_then x.typed.carried z x.done; names = all_bound_on z.stays x.names }

-- no guard
pub guard_none : (a : Parts) (env : List Entry) → TypesGuard a a env None
guard_none a env = λ aloud F scope G n k its s. carried_refl

-- a guard, which is a bool
pub guard_some : (a b : Parts) (env : List Entry) (e : Expression) → TypesAs a b env e a.constants.bool.0 → TypesGuard a b env (Some e)
guard_some a b env e typed = λ aloud F scope G n k its s. typed aloud F scope G n k (λ ch. bool_type) its s (means_more s.fixed.bool)

-- the body of the first case, whose type is that of the bodies
pub body_first : (a b : Parts) (env : List Entry) (body : Expression) (m : ℕ) → TypesTo a b env (λ c. body.typed c) (λ ch. ch.type_at body.node) m → TypesBody a b env body None m
body_first a b env body m typed = λ aloud F scope G n k result its s has. by result has (typed aloud F scope G s)
  where
    by : {F : Frame} {scope : Scope} {G : Letters} {n k : ℕ} (result : Option (Choice → Typ)) → MeansIf F (sight a) G result None → CarriedTo F scope (λ c. body.typed c) (sight a) G (sight b) G (λ ch. ch.type_at body.node) m → BodyCarried F scope (sight a) G (sight b) n k result body m
    by None has x = record { carried = carried_as (λ c. sym (append-nil (body.typed c))) x.carried; means = x.means }
    by (Some t) has x = absurd has

-- the body of a later one, which has that type
pub body_later : (a b : Parts) (env : List Entry) (body : Expression) (m : ℕ) → TypesAs a b env body m → TypesBody a b env body (Some m) m
body_later a b env body m typed = λ aloud F scope G n k result its s has. by aloud F scope G n k result its s has
  where
    by : is_aloud a.telling ≡ true → (F : Frame) (scope : Scope) (G : Letters) (n k : ℕ) (result : Option (Choice → Typ)) → scope.own n ≡ true → Surrounds as_declared F (sight a) G env scope → MeansIf F (sight a) G result (Some m) → BodyCarried F scope (sight a) G (sight b) n k result body m
    by aloud F scope G n k None its s has = absurd has
    by aloud F scope G n k (Some t) its s has = let x = typed aloud F scope G n k t its s has in record { carried = x; means = means_on x.stays has }

-- A case by its parts: the guard and the body are typed among the names of its pattern.
pub parts_typed : (a b d e : Parts) (env : List Entry) (p : Pattern) (guard : Option Expression) (body : Expression) (added : List Bind) (matched : ℕ) (bodies : Option ℕ) (m : ℕ) → MatchesAs a b env p added matched → Goes a b →
    TypesGuard b d (names_added added env) guard → Goes b d → TypesBody d e (names_added added env) body bodies m → TypesCaseParts a e env p guard body matched bodies m
parts_typed a b d e env p guard body added matched bodies m first goes guarded goes' typed = λ aloud F scope G n k subject result its s of_subject has.
    let x = first aloud F scope G n k subject its s of_subject in
    let loud : is_aloud b.telling ≡ true = ap is_aloud goes.telling ∙ aloud in
    let names = surrounds_bound x.names (surrounds_on x.carried.stays s) in
    let y = guarded loud F (with_bound p.names scope) (x.own ++ G) n (k + 1) its names in
    let z = typed (ap is_aloud goes'.telling ∙ loud) F (with_bound p.names scope) (x.own ++ G) n (k + 2) result its (surrounds_on y.stays names) (means_if_on result bodies (stays_trans x.carried.stays y.stays) has) in
    let guards = among_names x.names y in
    let bodies_too = among_names x.names z.carried in
    let front = carried_trans x.carried guards in
    record {
      own = x.own;
      carried = carried_as (λ c. sym (append_assoc (p.matched c [] ++ ask n k p.at (equal (type_at c p.node) (subject c.chosen)) ++ guard_asks (with_names c p.names) n (k + 1) guard) (body.typed (with_names c p.names)) (has_if_known c n (k + 2) body (type_by c.chosen result))))
          (carried_trans front bodies_too);
      done = done_as _ (carried_trans front bodies_too) (done_then front bodies_too (done_then x.carried guards x.done));
      means = z.means;
    }

-- what a case asks, by its parts
case_as : (c : Context) (n k : ℕ) (subject : Typ) (result : Option Typ) (x : Case) → tell x.node c ++ parts_of_case_ask c n k subject result x.pattern x.guard x.body ≡ case_asks c n k subject result x
case_as c n k subject None x = refl
case_as c n k subject (Some t) x = refl

-- A case: its own node is noted, and then it is typed by its parts.
pub case_typed : (a b d : Parts) (env : List Entry) (number : ℕ) (x : Case) (matched : ℕ) (bodies : Option ℕ) (m : ℕ) → number_in a.item number ≡ x.node → NotedNameless a b number env None → OnlyIndex a b → Goes a b → TypesCaseParts b d env x.pattern x.guard x.body matched bodies m →
    TypesCase a d env x matched bodies m
case_typed a b d env number x matched bodies m place noted rest goes typed = λ aloud F scope G n k subject result its s of_subject has.
    let y = plain_noted a b {F = F} {scope = scope} {G = G} number env x.node place aloud noted rest (surrounds_sees s) in
    let z = typed (ap is_aloud goes.telling ∙ aloud) F scope G n k subject result its (surrounds_on y.stays s) (means_on y.stays of_subject) (means_if_on result bodies y.stays has) in
    record { own = z.own; carried = carried_as (λ c. case_as c n k (subject c.chosen) (type_by c.chosen result) x) (carried_trans y z.carried); done = done_as _ (carried_trans y z.carried) (done_last y z.carried z.done); means = z.means }

-- A case that is missing: its node is noted, and nothing is asked.
pub missing_case : (a b : Parts) (number : ℕ) (env : List Entry) → NotedNameless a b number env None → OnlyIndex a b → (F : Frame) (scope : Scope) (G : Letters) → Carried F scope (λ c. []) (sight a) G (sight b) G
missing_case a b number env (names, none, noted) rest F scope G =
    carried_idle none_idle (untyped_noted a b number (record { env = env; ty = None; names = names }) refl noted rest) (ap (λ f. (sight (record a { faults = f })).reports) rest.faults)
