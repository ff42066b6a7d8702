-- Names that were added go out of scope again, as at the end of a signature: their roots stay, and the names of before are in scope, with others that stand for what these roots are.
use Rattle.std.proofs.Common.{◌≡◌, ◌∙◌, ℕ, ◌<◌, false, List, [], ◌++◌, length, inl, inr, refl, sym, ap, subst, append_assoc, arith}
use Rattle.type_model.specs.Types.{occurs}
use Rattle.signature_model.specs.Entries.{Environment}
use Rattle.typing_laws.proofs.Bools.{no_yes}
use Rattle.typing_model.specs.Contexts.{Choice}
use Rattle.type_nodes.specs.Nodes.{Node}
use Rattle.type_nodes.specs.Readings.{Types}
use Rattle.env_table.specs.declared.entries.Entry.{Entry}
use Rattle.typing_conditions.specs.Locals.{IsOwn, Refines}
use Rattle.typing_conditions.specs.Environments.{EnvAs, no_names}
use Rattle.typing_conditions.specs.Standing.{IsIn}
use Rattle.typing_conditions.specs.Declared.{DeclaredAs, ExceptionAs}
use Rattle.typing_conditions.specs.Sights.{Sight, Letters, AreGiven}
use Rattle.typing_conditions.proofs.Own.{own_of}
use Rattle.typing_conditions.proofs.Steps.{refines_none, refines_then}
use Rattle.typing_conditions.proofs.Environments.{env_map, env_append}
use Rattle.typing_conditions.proofs.DeclaredLater.{declared_after, exception_after}
use Rattle.typing_conditions.proofs.Regions.{any_in, in_any}
use Rattle.typing_conditions.proofs.Roots.{same_root, root_after, root_renamed}
use Rattle.typing_steps.specs.Typing.{as_declared}
use Rattle.binding_rows.specs.Outside.{Outside}
use Rattle.first_laws.specs.Declaring.{OnlyTypes, AreBoundIn, SpecifiedAs, Declares, StartsAfter, Grows}
use Rattle.first_laws.proofs.Declared.{in_second, each_of_two, any_cases, outside_declared, declared_older, declared_grows}
use Rattle.first_laws.proofs.Renamed.{declared_renamed, exception_renamed}

-- entries stand for what they stood for, at a later state, among more roots, with the same names of the variables of before
pub entries_later : {old new : List Node} {I J : Types} {C C' : List ℕ} {N M : Types} {more : List Entry} {F : Environment} → IsOwn old I → Refines old new J → ((r : ℕ) → IsIn C r → IsIn C' r) → ((v : ℕ) → v < length old → M v ≡ N v) →
    EnvAs (SpecifiedAs old C N) (DeclaredAs old C N) (ExceptionAs old C N) more F → EnvAs (SpecifiedAs new C' M) (DeclaredAs new C' M) (ExceptionAs new C' M) more F
entries_later {old} {new} {C = C} {C' = C'} {N = N} {M = M} own step in_more same entries =
    env_map (SpecifiedAs old C N) (SpecifiedAs new C' M) (DeclaredAs old C N) (DeclaredAs new C' M) (ExceptionAs old C N) (ExceptionAs new C' M)
    (λ r sc h. record { arity = h.arity; type = h.type; scheme = h.scheme; known = h.known; root = root_after own step in_more (root_renamed same h.root) })
    (λ d e h. declared_after own step in_more (declared_renamed same h)) (λ c o h. exception_after own step in_more (exception_renamed same h)) entries

-- what was made from one state to a later one, and from there to a third
pub types_both : {a b c : Sight} → OnlyTypes a b → OnlyTypes b c → OnlyTypes a c
types_both {a} {b} {c} one two = record {
  sound = two.sound;
  level = two.level ∙ one.level;
  types = λ i p. two.types i p ∙ one.types i p;
  noted = λ i p h. two.noted i p (one.noted i p h);
  scopes = λ i p env h. two.scopes i p env (one.scopes i p env h);
  refines = λ K own. let mid = own_of b.nodes one.sound in refines_then a.nodes b.nodes c.nodes mid.0 K mid.1 own (one.refines mid.0 mid.1) (two.refines K own);
  reads = λ V h. one.reads V (two.reads V h);
}

-- roots in which all variables are bound are so later
bound_later : {b c : Sight} {rs : List ℕ} → OnlyTypes b c → (J : Types) → IsOwn b.nodes J → AreBoundIn b.nodes rs → AreBoundIn c.nodes rs
bound_later {b} {c} {rs} on J own h = record {
  inside = λ k r e. let p = h.inside k r e in let (K, own_c) = own_of c.nodes on.sound in let q = (on.refines K own_c).longer in omega arith;
  bound = λ K own_c v s.
      let y = in_any v K rs s in
      let here : K y.node ≡ J y.node = same_root y.node own own_c (on.refines K own_c) (λ w o. h.bound J own w (any_in w J rs y.place y.node y.at o)) in
      let (scope, e) = h.bound J own v (any_in v J rs y.place y.node y.at (ap (occurs v) (sym here) ∙ y.occurs)) in
      (scope, (on.refines K own_c).bounds v scope e);
}

-- so what stood for entries does after names were added
pub entries_on : {a b : Sight} {G H : Letters} {env after : List Entry} {E E' : Choice → Environment} {at : Outside as_declared a G env E} {to : Outside as_declared b H after E'} {more : List Entry} {F : Environment} → Grows at to more F → {es : List Entry} {fs : Environment} →
    EnvAs (SpecifiedAs a.nodes at.roots at.names) (DeclaredAs a.nodes at.roots at.names) (ExceptionAs a.nodes at.roots at.names) es fs → EnvAs (SpecifiedAs b.nodes to.roots to.names) (DeclaredAs b.nodes to.roots to.names) (ExceptionAs b.nodes to.roots to.names) es fs
entries_on {a} {b} {at = at} g entries =
    let own = own_of a.nodes at.sound in
    let end = own_of b.nodes g.on.sound in
    entries_later own.1 (g.on.refines end.0 end.1) (λ r i. subst (λ rs. IsIn rs r) (sym g.roots) (in_second g.new_roots at.roots r i)) g.same entries

-- where nothing was added
pub grows_none : {a : Sight} {G : Letters} {env : List Entry} {E : Choice → Environment} (at : Outside as_declared a G env E) → Grows at at [] []
grows_none {a} at = record {
  on = record { sound = at.sound; level = refl; types = λ i p. refl; noted = λ i p h. h; scopes = λ i p env h. h; refines = λ K own. refines_none a.nodes K own; reads = λ V h. h };
  new_roots = [];
  roots = refl;
  same = λ v lt. refl;
  are_bound = record { inside = λ k r e. absurd (cc); bound = λ K own v h. absurd (no_yes h) };
  entries = no_names;
}

-- Names that were added after others.
pub grows_both : {a b c : Sight} {G H K : Letters} {env mid after : List Entry} {E E' E'' : Choice → Environment} {at : Outside as_declared a G env E} {half : Outside as_declared b H mid E'} {to : Outside as_declared c K after E''} {more others : List Entry} {F F' : Environment} →
    Grows at half more F → Grows half to others F' → Grows at to (others ++ more) (F' ++ F)
grows_both {a} {b} {c} {at = at} {half = half} {to = to} {more} {others} {F} {F'} one two =
    let own = own_of b.nodes one.on.sound in
    record {
      on = types_both one.on two.on;
      new_roots = two.new_roots ++ one.new_roots;
      roots = two.roots ∙ ap (λ rs. two.new_roots ++ rs) one.roots ∙ sym (append_assoc two.new_roots one.new_roots at.roots);
      same = λ v lt. two.same v (let own_a = own_of a.nodes at.sound in let l = (one.on.refines own.0 own.1).longer in omega arith) ∙ one.same v lt;
      are_bound = record {
        inside = each_of_two two.new_roots one.new_roots (λ r. r < length c.nodes) two.are_bound.inside (bound_later two.on own.0 own.1 one.are_bound).inside;
        bound = λ L own_c v h. elim (any_cases v L two.new_roots one.new_roots h) [ inl i ↦ two.are_bound.bound L own_c v i | inr i ↦ (bound_later two.on own.0 own.1 one.are_bound).bound L own_c v i ];
      };
      entries = env_append (SpecifiedAs c.nodes to.roots to.names) (DeclaredAs c.nodes to.roots to.names) (ExceptionAs c.nodes to.roots to.names) two.entries (entries_on two one.entries);
    }

-- Where letters are open whose types are those of the letters before, the names stand for the same.
pub outside_given : {b : Sight} {G H : Letters} {env : List Entry} {E : Choice → Environment} → ((V : Types) (ch : Choice) → AreGiven H V ch → AreGiven G V ch) → Outside as_declared b G env E → Outside as_declared b H env E
outside_given given at = record {
  sound = at.sound;
  level = at.level;
  roots = at.roots;
  names = at.names;
  apart = at.apart;
  older = at.older;
  unknown = at.unknown;
  steady = at.steady;
  context = at.context;
  covered = at.covered;
  known = at.known;
  knows = at.knows;
  reads = λ J V ch own reads g. at.reads J V ch own reads (record { recorded = g.recorded; known = g.known; given = given V ch g.given });
  fits = λ J V ch own loose g. at.fits J V ch own loose (record { recorded = g.recorded; known = g.known; given = given V ch g.given });
}

-- and what was added is the same
grows_given : {a b : Sight} {G H K : Letters} {env after : List Entry} {E E' : Choice → Environment} {at : Outside as_declared a G env E} {to : Outside as_declared b H after E'} {more : List Entry} {F : Environment} (given : (V : Types) (ch : Choice) → AreGiven K V ch → AreGiven H V ch) →
    Grows at to more F → Grows at (outside_given given to) more F
unfolding outside_given
grows_given given g = record { on = g.on; new_roots = g.new_roots; roots = g.roots; same = g.same; are_bound = g.are_bound; entries = g.entries }

-- The names of before are in scope again, at the state to which names were added, and others that stand for what they are by its roots.
pub outside_within : {a b : Sight} {G H : Letters} {env after : List Entry} {E E' : Choice → Environment} (at : Outside as_declared a G env E) (to : Outside as_declared b H after E') {more : List Entry} {F : Environment} → Grows at to more F → ((V : Types) (ch : Choice) → AreGiven H V ch → AreGiven G V ch) →
    (others : List Entry) (F' : Environment) → EnvAs (SpecifiedAs b.nodes to.roots to.names) (DeclaredAs b.nodes to.roots to.names) (ExceptionAs b.nodes to.roots to.names) others F' → StartsAfter at b H others F' to.older
unfolding outside_given
outside_within {b = b} at to g given others F' entries =
    let now : EnvAs (SpecifiedAs b.nodes (g.new_roots ++ at.roots) to.names) (DeclaredAs b.nodes (g.new_roots ++ at.roots) to.names) (ExceptionAs b.nodes (g.new_roots ++ at.roots) to.names) others F' =
    subst (λ C. EnvAs (SpecifiedAs b.nodes C to.names) (DeclaredAs b.nodes C to.names) (ExceptionAs b.nodes C to.names) others F') g.roots entries in
    let declares : Declares _ b at.roots at.names others F' = record { new_roots = g.new_roots; new_names = to.names; same = g.same; apart = to.apart; older = to.older; unknown = to.unknown; are_bound = g.are_bound; entries = now; plain = false; keeps = λ e. absurd (no_yes e) } in
    record {
      outside = outside_given given (outside_declared at g.on declares);
      older = declared_older at g.on declares;
      grows = grows_given given (declared_grows at g.on declares);
    }
