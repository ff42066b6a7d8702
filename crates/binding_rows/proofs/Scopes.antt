-- Parts that are typed among the names of patterns, and calls after which nothing is asked.
use Rattle.std.proofs.Common.{◌≡◌, ◌++◌, List, [], ◌∷◌, refl, subst, sym}
use Rattle.signature_model.specs.Declarations.{in_text}
use Rattle.signature_model.specs.Entries.{Environment, entry, a_value}
use Rattle.typing_model.specs.Contexts.{Context, Bound, monomorphic, entries_with, with_names}
use Rattle.env_table.specs.declared.entries.Entry.{Entry}
use Rattle.typing_state.specs.declared.parts.Parts.{Parts}
use Rattle.typing_conditions.specs.Sights.{Sight, Letters}
use Rattle.typing_conditions.specs.Frames.{Frame}
use Rattle.typing_conditions.specs.Carrying.{Asks, Scope, Carried, without_values}
use Rattle.typing_conditions.specs.Surroundings.{Declared, Surrounds, context_of}
use Rattle.typing_conditions.specs.Hiding.{AreDone}
use Rattle.typing_conditions.proofs.Carried.{carried_under, under_hides}
use Rattle.typing_conditions.proofs.Surrounding.{surrounds_named}
use Rattle.typing_steps.specs.States.{sight}
use Rattle.typing_steps.specs.Warning.{OnlyWarnings}
use Rattle.typing_steps.proofs.Seeing.{only_reports}
use Rattle.typing_steps.proofs.Still.{none_idle, carried_idle}
use Rattle.pattern_rows.specs.Bounds.{Bind, AllBound, none_bound, one_bound}
use Rattle.binding_rows.specs.CaseScopes.{with_bound, names_added}
use Rattle.type_model.specs.Schemes.{Scheme}
use Rattle.type_model.specs.Types.{Typ}
use Rattle.typing_conditions.proofs.Stops.{around_values}

-- A part is typed among the names that a pattern binds: their types are those of open nodes, in which no unknown type stands.
pub surrounds_bound : {D : Declared} {F : Frame} {a : Sight} {G : Letters} {env : List Entry} {scope : Scope} {bs : List Bound} {ys : List Bind} → AllBound F a G bs ys → Surrounds D F a G env scope → Surrounds D F a G (names_added ys env) (with_bound bs scope)
surrounds_bound none_bound s = s
surrounds_bound (one_bound {x = x} h hs) s = surrounds_bound hs (surrounds_named (in_text x.place) h.entry h.means (λ V ch loose g. h.known V ch g) s)

-- the names of patterns in a context are those by its choice
names_same : {F : Frame} {a : Sight} {G : Letters} {bs : List Bound} {ys : List Bind} → AllBound F a G bs ys → (c : Context) (E E' : Environment) → E ≡ E' → entries_with monomorphic c bs E ≡ entries_with monomorphic (context_of c.chosen) bs E'
names_same none_bound c E E' e = e
names_same (one_bound {x = x} h hs) c E E' e =
    names_same hs c (entry x.name (in_text x.place) (a_value (monomorphic (x.has_type c))) ∷ E) (entry x.name (in_text x.place) (a_value (monomorphic (x.has_type (context_of c.chosen)))) ∷ E')
    (λ k. entry x.name (in_text x.place) (a_value (monomorphic (h.chosen c k))) ∷ e k)

-- the names of patterns are values
pub only_values : (scheme : Typ → Scheme) (c : Context) (bs : List Bound) (E : Environment) → without_values (entries_with scheme c bs E) ≡ without_values E
only_values scheme c [] E = refl
only_values scheme c (b ∷ bs) E = only_values scheme c bs (entry b.name (in_text b.place) (a_value (scheme (b.has_type c))) ∷ E)

-- what is carried among the names of patterns is carried outside, in the context with these names
pub among_names : {F : Frame} {scope : Scope} {asks : Asks} {a b d : Sight} {G H K : Letters} {bs : List Bound} {ys : List Bind} → AllBound F d K bs ys → Carried F (with_bound bs scope) asks a G b H → Carried F scope (λ c. asks (with_names c bs)) a G b H
among_names {scope = scope} {asks = asks} {bs = bs} bound p =
    carried_under (λ c. with_names c bs) refl (λ c. (refl, refl)) (λ c u. record { env = names_same bound c c.env (scope.env c.chosen) u.env; variables = u.variables; held = u.held })
    (around_values scope (with_bound bs scope) (λ c. with_names c bs) asks refl (λ c u. only_values monomorphic c bs c.env)) p

-- and it hides the same: the rows of letters are done as they were
pub done_among : {F : Frame} (scope : Scope) {asks : Asks} {a b d : Sight} {G H K own : Letters} {bs : List Bound} {ys : List Bind} (bound : AllBound F d K bs ys) (p : Carried F (with_bound bs scope) asks a G b H) → AreDone b p.hidden own → AreDone b (among_names {scope = scope} bound p).hidden own
unfolding among_names
done_among scope {b = b} {own = own} bound p h = subst (λ xs. AreDone b xs own) (sym (under_hides _ _ _ _ _ p)) h

-- some names, and then others
pub names_both : (ys zs : List Bind) (env : List Entry) → names_added (ys ++ zs) env ≡ names_added zs (names_added ys env)
names_both [] zs env = refl
names_both (y ∷ ys) zs env = names_both ys zs (y.entry ∷ env)

-- after warnings nothing is asked
pub only_warned : (a b : Parts) {F : Frame} {scope : Scope} {G : Letters} → OnlyWarnings a b → Carried F scope (λ c. []) (sight a) G (sight b) G
only_warned a b w = carried_idle none_idle (only_reports a b w.rest) w.told
