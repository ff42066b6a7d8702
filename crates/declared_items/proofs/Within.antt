-- What an item that declares something asks is carried where it is settled in surroundings of its own, as inside a group of types, from one state between items to a later one.
use Rattle.std.proofs.Common.{◌≡◌, ◌∙◌, inl, inr, ℕ, ◌≤◌, List, [], ◌∷◌, ◌++◌, take, length, Option, refl, sym, ap, subst, arith}
use Rattle.type_model.specs.Types.{Typ}
use Rattle.type_model.specs.Schemes.{Scheme}
use Rattle.signature_model.specs.Declarations.{Name}
use Rattle.signature_model.specs.Entries.{Environment}
use Rattle.signature_model.specs.Matching.{IsKnown}
use Rattle.typing_model.specs.Demands.{AllHold}
use Rattle.typing_model.specs.Contexts.{Choice, Context, parameters, under}
use Rattle.typing_model.specs.Parts.{Item}
use Rattle.type_nodes.specs.Nodes.{Var, bound_level}
use Rattle.type_nodes.specs.Readings.{Types, Fits}
use Rattle.level_unify.specs.Solutions.{Loose}
use Rattle.level_unify.proofs.Unified.{fits_loosely}
use Rattle.level_unify.proofs.Variants.{bound_cell, bound_there}
use Rattle.env_table.specs.declared.entries.Constructor.{Constructor}
use Rattle.env_table.specs.declared.entries.Entry.{Entry}
use Rattle.typing_conditions.specs.Locals.{IsOwn}
use Rattle.typing_conditions.specs.Assumptions.{SchemeFits}
use Rattle.typing_conditions.specs.Standing.{IsIn}
use Rattle.typing_conditions.specs.Declared.{DeclaredAs, ExceptionAs}
use Rattle.typing_conditions.specs.Sights.{Sight, Report, Letters, SameAt}
use Rattle.typing_conditions.specs.Judging.{Judgement, judgements, Follows, FallsShort, AnySeen, Meets}
use Rattle.typing_conditions.specs.Carrying.{Asks}
use Rattle.typing_conditions.proofs.Adequate.{never_short}
use Rattle.typing_conditions.proofs.Carried.{Decides}
use Rattle.typing_conditions.proofs.Environments.{env_map}
use Rattle.typing_conditions.proofs.Hiding.{copy_itself, settles_none}
use Rattle.typing_conditions.proofs.Meaning.{nodes_in, given_same}
use Rattle.typing_conditions.proofs.Own.{own_of}
use Rattle.typing_steps.specs.Typing.{as_declared}
use Rattle.typing_rows.specs.Around.{TypeAs, TypesAs}
use Rattle.typing_rows.specs.Settled.{Fixes, AreFixed, Before, IsBehind, Settled}
use Rattle.typing_rows.proofs.Surrounding.{known_by, declared_known}
use Rattle.binding_rows.specs.ItemRows.{AreDeclared, AreOwned, none_owned, leaves_none, leaves_types}
use Rattle.binding_rows.specs.Outside.{AgreesOutside, InEachMet, Outside, EntersItems, ContinuesItems, StaysOutside, ItemsCarried}
use Rattle.first_laws.specs.Declaring.{OnlyTypes}
use Rattle.first_laws.proofs.SettledItems.{types_left}

-- The names before an item stand for those of the definitions as far as types are found by them.
pub types_as : {a : Sight} {G : Letters} {env : List Entry} {E : Choice → Environment} (at : Outside as_declared a G env E) (I : Types) → IsOwn a.nodes I → (V : Types) (c : Context) → c.env ≡ E c.chosen → Loose a.nodes V → AgreesOutside a G V c.chosen → TypesAs (known_by at.names I) env c.env
types_as {a} {G} {env} {E} at I own V c e loose agrees = subst (TypesAs (known_by at.names I) env) (sym e)
    (env_map (λ r sc. SchemeFits a.nodes V r sc × IsIn at.roots r) (λ (r : ℕ) (sc : Scheme). Unit {0}) (DeclaredAs a.nodes at.roots at.names) (TypeAs (known_by at.names I)) (ExceptionAs a.nodes at.roots at.names) (λ (x : Constructor) (o : Option Typ). Unit {0})
    (λ r sc h. tt) (λ d f h. declared_known own h) (λ x o h. tt) (at.fits I V c.chosen own loose agrees).names)

-- A choice with which an item is entered agrees with the state after types alone were made, by types that go on.
pub agrees_further : {a b : Sight} {G : Letters} {E : Choice → Environment} → OnlyTypes a b → (V W : Types) (c : Context) → EntersItems E a G V c → SameAt a.nodes V W → AgreesOutside b G W c.chosen
agrees_further {a} {b} {G} on V W c e before = record {
  recorded = λ i p m f. let g = sym (on.types i p) ∙ f in e.agrees.recorded i p m g ∙ sym (before m (e.inside.recorded i p m g));
  known = λ i p m f. let g = sym (on.types i p) ∙ f in subst IsKnown (sym (before m (e.inside.recorded i p m g))) (e.agrees.known i p m g);
  given = given_same G a.nodes V W c.chosen e.inside.given before e.agrees.given;
}

-- Conditions are settled in these surroundings, with these parameters as type variables, and types alone are made; types that fit before go on. Each context in which the item starts is among them, be it known by
-- types with which the item is entered or by types after it.
module _ {a b : Sight} {G : Letters} {E : Choice → Environment} (on : OnlyTypes a b) (surround : Context → Environment) (names : List Name) {B : Before} {asks : Asks} {judged : List Judgement} {told : List Report} {fixes : Fixes}
    (settled : Settled B asks judged told fixes) (others : Asks) (same : (c : Context) → asks (record (under (surround c) c) { variables = parameters names }) ≡ others c)
    (earlier : (V : Types) (c : Context) → EntersItems E a G V c → IsBehind B (record (under (surround c) c) { variables = parameters names }))
    (later : (V : Types) (c : Context) → c.env ≡ E c.chosen → Loose b.nodes V → AgreesOutside b G V c.chosen → IsBehind B (record (under (surround c) c) { variables = parameters names })) where
  -- the context inside the item
  abbrev into : Context → Context
  into c = record (under (surround c) c) { variables = parameters names }

  loose_back : (V : Types) → Loose b.nodes V → Loose a.nodes V
  loose_back V h = let (K, own_k) = own_of b.nodes on.sound in (on.refines K own_k).loose V h

  -- where what is asked is met, the types are those that are decided
  pub within_met : InEachMet E others b G judged (λ c. AreFixed fixes c.chosen)
  within_met V c e loose agrees met = elim (settled.complete (into c) (later V c e loose agrees) (subst (AllHold c.kept) (sym (same c)) met.holds)) [
    | inl goes ↦ goes.1
    | inr short ↦ absurd (never_short c.kept (asks (into c)) judged met.kept short)
  ]

  module _ (reports : b.reports ≡ a.reports ++ told) (aloud : b.aloud ≡ a.aloud) (fixed : b.fixed ≡ a.fixed) (goes_on : (V : Types) → Fits a.nodes V → (W : Types) × Fits b.nodes W × SameAt a.nodes V W) (n : ℕ) where
    longer : length a.nodes ≤ length b.nodes
    longer = let (K, own_k) = own_of b.nodes on.sound in (on.refines K own_k).longer

    pub types_stay : StaysOutside a G b G
    types_stay = record {
      sound = λ s. on.sound;
      loose = loose_back;
      reads = on.reads;
      refines = on.refines;
      bounds = λ v h. let (K, own_k) = own_of b.nodes on.sound in let (o, e) = bound_cell a.nodes v h in bound_there b.nodes v (Var bound_level o) ((on.refines K own_k).bounds v o e) refl;
      recorded = λ i p m e. on.types i p ∙ e;
      keeps = record { noted = on.noted; scopes = on.scopes; same = λ i p h. on.types i p; recorded = λ i p m e. on.types i p ∙ e };
      given = λ V ch h. h;
      inside = λ i. record { recorded = λ j p m e. (let lt = i.recorded j p m (sym (on.types j p) ∙ e) in let le = longer in omega arith); given = nodes_in G a.nodes b.nodes longer i.given };
      aloud = aloud;
      level = on.level;
      fixed = fixed;
    }

    pub further : (V : Types) (c : Context) → EntersItems E a G V c → judgements c.kept (others c) ≡ judged → AreFixed fixes c.chosen → (W : Types) × Fits b.nodes W × SameAt a.nodes V W → ContinuesItems others a b G (types_left n fixes ∷ []) judged V c
    further V c e is decided (W, fits, before) = record {
      same = is;
      types = W;
      fits = fits;
      before = before;
      agrees = agrees_further on V W c e before;
      left_too = (tt, tt);
      decided = (decided, tt);
    }

    -- What the item asks is carried, and leaves the types that are decided.
    unfoldable pub within_settled : ItemsCarried E others a G b G
    within_settled = record {
      stays = types_stay;
      left = types_left n fixes ∷ [];
      opened = λ k y e. inl (copy_itself G k y e);
      settled = settles_none;
      judged = judged;
      told = told;
      reports = reports;
      counted = settled.counted;
      sound = λ V c l. subst (λ cs. Meets AnySeen c.kept cs judged told) (same c) (settled.sound (into c) (later V c l.env (fits_loosely b.nodes V l.reads.fits) l.agrees) l.kept l.left_too.0.fixed);
      follows = λ V c l. subst (λ cs. Follows c.kept cs judged) (same c) (settled.follows (into c) (later V c l.env (fits_loosely b.nodes V l.reads.fits) l.agrees) l.left_too.0.fixed);
      complete = λ V c e h. elim (settled.complete (into c) (earlier V c e) (subst (AllHold c.kept) (sym (same c)) h)) [
        | inl goes ↦ inl (further V c e (ap (judgements c.kept) (sym (same c)) ∙ goes.0) goes.1 (goes_on V e.fits))
        | inr short ↦ inr (subst (λ cs. FallsShort (judgements c.kept cs) judged) (same c) short)
      ];
      first = λ k V c e h. subst (λ cs. Decides c judged (take k cs)) (same c) (settled.first k (into c) (earlier V c e) (subst (λ cs. AllHold c.kept (take k cs)) (sym (same c)) h));
    }

    -- it is an item's that declares something
    pub within_owned : (m : Item) → ((c : Context) → AreDeclared (m.components c)) → AreOwned (m ∷ []) within_settled.left
    unfolding within_settled
    within_owned m declared = leaves_types declared (leaves_none none_owned)
