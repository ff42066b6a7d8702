-- What an item that declares something asks is carried where it is settled, from one state between items to a later one.
use Rattle.std.proofs.Common.{◌≡◌, ◌∙◌, inl, inr, ℕ, ◌≤◌, Bool, List, [], ◌∷◌, ◌++◌, take, length, Option, None, refl, sym, ap, subst, arith}
use Rattle.type_model.specs.Types.{Typ}
use Rattle.type_model.specs.Schemes.{Scheme}
use Rattle.signature_model.specs.Declarations.{Name}
use Rattle.signature_model.specs.Entries.{Environment}
use Rattle.signature_model.specs.Matching.{IsKnown}
use Rattle.typing_laws.proofs.Bools.{no_yes}
use Rattle.typing_model.specs.Demands.{AllHold}
use Rattle.typing_model.specs.Contexts.{Choice, Context, parameters}
use Rattle.typing_model.specs.Parts.{Item}
use Rattle.type_nodes.specs.Nodes.{Var, bound_level}
use Rattle.type_nodes.specs.Readings.{Types, Fits}
use Rattle.level_unify.specs.Solutions.{Loose}
use Rattle.level_unify.proofs.Unified.{fits_loosely}
use Rattle.level_unify.proofs.Variants.{bound_cell, bound_there}
use Rattle.env_table.specs.declared.entries.Constructor.{Constructor}
use Rattle.env_table.specs.declared.entries.Entry.{Entry}
use Rattle.typing_conditions.specs.Locals.{IsOwn}
use Rattle.typing_conditions.specs.Assumptions.{SchemeFits}
use Rattle.typing_conditions.specs.Standing.{IsIn}
use Rattle.typing_conditions.specs.Declared.{DeclaredAs, ExceptionAs}
use Rattle.typing_conditions.specs.Sights.{Sight, Report, Letters, SameAt}
use Rattle.typing_conditions.specs.Seeing.{StandsFor, IsSeen}
use Rattle.typing_conditions.specs.Judging.{Judgement, judgements, Follows, FallsShort, AllSeen, AnySeen, Meets}
use Rattle.typing_conditions.specs.Carrying.{Asks}
use Rattle.typing_conditions.proofs.Adequate.{never_short}
use Rattle.typing_conditions.proofs.Carried.{Decides}
use Rattle.typing_conditions.proofs.Environments.{env_map}
use Rattle.typing_conditions.proofs.Hiding.{keeps_as, copy_itself, settles_none}
use Rattle.typing_conditions.proofs.Meaning.{nodes_in, given_same}
use Rattle.typing_conditions.proofs.Own.{own_of}
use Rattle.typing_steps.specs.Typing.{as_declared}
use Rattle.typing_rows.specs.Around.{TypeAs, TypesAs}
use Rattle.typing_rows.specs.Settled.{Fixes, AreFixed, IsBehind, among, Settled}
use Rattle.typing_rows.specs.Treating.{IsScoped}
use Rattle.typing_rows.proofs.Treating.{seen_as}
use Rattle.typing_rows.proofs.Surrounding.{known_by, declared_known}
use Rattle.binding_rows.specs.ItemRows.{AreDeclared, AreOwned, none_owned, leaves_none, leaves_types}
use Rattle.binding_rows.specs.Outside.{AgreesOutside, InEachMet, Outside, Left, EntersItems, ContinuesItems, StaysOutside, ItemsCarried, SeesItems}
use Rattle.binding_rows.proofs.ItemOrders.{outside_sees}
use Rattle.first_laws.specs.Declaring.{OnlyTypes}
use Rattle.first_laws.proofs.Declared.{agrees_before}

-- what an item leaves that declares something: the types that are decided
abbrev pub types_left : ℕ → Fixes → Left
types_left n fixes = record { letters = []; owner = n; names = []; written = λ x. None; fixed = fixes }

-- Conditions are settled among the names before, with these parameters as type variables, and types alone are made; types that fit before go on.
module _ {a b : Sight} {G : Letters} {env : List Entry} {E : Choice → Environment} (at : Outside as_declared a G env E) (on : OnlyTypes a b) (I : Types) (own : IsOwn a.nodes I) (names : List Name) {asks : Asks} {judged : List Judgement} {told : List Report} {fixes : Fixes}
    (settled : Settled (among env (known_by at.names I) names) asks judged told fixes) (others : Asks) (same : (c : Context) → asks (record c { variables = parameters names }) ≡ others c) where
  -- the context inside the item
  abbrev into : Context → Context
  into c = record c { variables = parameters names }

  pub loose_before : (V : Types) → Loose b.nodes V → Loose a.nodes V
  loose_before V h = let (K, own_k) = own_of b.nodes on.sound in (on.refines K own_k).loose V h

  types_as : (V : Types) (c : Context) → c.env ≡ E c.chosen → Loose a.nodes V → AgreesOutside a G V c.chosen → TypesAs (known_by at.names I) env c.env
  types_as V c e loose agrees = subst (TypesAs (known_by at.names I) env) (sym e)
      (env_map (λ r sc. SchemeFits a.nodes V r sc × IsIn at.roots r) (λ (r : ℕ) (sc : Scheme). Unit {0}) (DeclaredAs a.nodes at.roots at.names) (TypeAs (known_by at.names I)) (ExceptionAs a.nodes at.roots at.names) (λ (x : Constructor) (o : Option Typ). Unit {0})
      (λ r sc h. tt) (λ d f h. declared_known own h) (λ x o h. tt) (at.fits I V c.chosen own loose agrees).names)

  -- it is behind nothing but the names
  pub stands_behind : (V : Types) (c : Context) → c.env ≡ E c.chosen → Loose a.nodes V → AgreesOutside a G V c.chosen → IsBehind (among env (known_by at.names I) names) (into c)
  stands_behind V c e loose agrees = record { types = types_as V c e loose agrees; variables = refl; kept = tt; fixed = tt }

  -- where what is asked is met, the types are those that are decided
  pub fixed_met : InEachMet E others b G judged (λ c. AreFixed fixes c.chosen)
  fixed_met V c e loose agrees met = elim (settled.complete (into c) (stands_behind V c e (loose_before V loose) (agrees_before on agrees)) (subst (AllHold c.kept) (sym (same c)) met.holds)) [
    | inl goes ↦ goes.1
    | inr short ↦ absurd (never_short c.kept (asks (into c)) judged met.kept short)
  ]

  module _ (reports : b.reports ≡ a.reports ++ told) (aloud : b.aloud ≡ a.aloud) (fixed : b.fixed ≡ a.fixed) (goes_on : (V : Types) → Fits a.nodes V → (W : Types) × Fits b.nodes W × SameAt a.nodes V W) (n : ℕ) where
    longer : length a.nodes ≤ length b.nodes
    longer = let (K, own_k) = own_of b.nodes on.sound in (on.refines K own_k).longer

    pub types_stay : StaysOutside a G b G
    types_stay = record {
      sound = λ s. on.sound;
      loose = loose_before;
      reads = on.reads;
      refines = on.refines;
      bounds = λ v h. let (K, own_k) = own_of b.nodes on.sound in let (o, e) = bound_cell a.nodes v h in bound_there b.nodes v (Var bound_level o) ((on.refines K own_k).bounds v o e) refl;
      recorded = λ i p m e. on.types i p ∙ e;
      keeps = keeps_as on.noted on.scopes on.types;
      given = λ V ch h. h;
      inside = λ i. record { recorded = λ j p m e. (let lt = i.recorded j p m (sym (on.types j p) ∙ e) in let le = longer in omega arith); given = nodes_in G a.nodes b.nodes longer i.given };
      aloud = aloud;
      level = on.level;
      fixed = fixed;
    }

    pub further : (V : Types) (c : Context) → EntersItems E a G V c → judgements c.kept (others c) ≡ judged → AreFixed fixes c.chosen → (W : Types) × Fits b.nodes W × SameAt a.nodes V W → ContinuesItems others a b G (types_left n fixes ∷ []) judged V c
    further V c e is decided (W, fits, before) = record {
      same = is;
      types = W;
      fits = fits;
      before = before;
      agrees = record {
        recorded = λ i p m f. let g = sym (on.types i p) ∙ f in e.agrees.recorded i p m g ∙ sym (before m (e.inside.recorded i p m g));
        known = λ i p m f. let g = sym (on.types i p) ∙ f in subst IsKnown (sym (before m (e.inside.recorded i p m g))) (e.agrees.known i p m g);
        given = given_same G a.nodes V W c.chosen e.inside.given before e.agrees.given;
      };
      left_too = (tt, tt);
      decided = (decided, tt);
    }

    -- What the item asks is carried, and leaves the types that are decided.
    unfoldable pub items_settled : ItemsCarried E others a G b G
    items_settled = record {
      stays = types_stay;
      left = types_left n fixes ∷ [];
      opened = λ k y e. inl (copy_itself G k y e);
      settled = settles_none;
      judged = judged;
      told = told;
      reports = reports;
      counted = settled.counted;
      sound = λ V c l. subst (λ cs. Meets AnySeen c.kept cs judged told) (same c) (settled.sound (into c) (stands_behind V c l.env (loose_before V (fits_loosely b.nodes V l.reads.fits)) (agrees_before on l.agrees)) l.kept l.left_too.0.fixed);
      follows = λ V c l. subst (λ cs. Follows c.kept cs judged) (same c) (settled.follows (into c) (stands_behind V c l.env (loose_before V (fits_loosely b.nodes V l.reads.fits)) (agrees_before on l.agrees)) l.left_too.0.fixed);
      complete = λ V c e h. elim (settled.complete (into c) (stands_behind V c e.env (fits_loosely a.nodes V e.fits) e.agrees) (subst (AllHold c.kept) (sym (same c)) h)) [
        | inl goes ↦ inl (further V c e (ap (judgements c.kept) (sym (same c)) ∙ goes.0) goes.1 (goes_on V e.fits))
        | inr short ↦ inr (subst (λ cs. FallsShort (judgements c.kept cs) judged) (same c) short)
      ];
      first = λ k V c e h. subst (λ cs. Decides c judged (take k cs)) (same c) (settled.first k (into c) (stands_behind V c e.env (fits_loosely a.nodes V e.fits) e.agrees) (subst (λ cs. AllHold c.kept (take k cs)) (sym (same c)) h));
    }

    -- it is an item's that declares something
    pub settled_owned : (m : Item) → ((c : Context) → AreDeclared (m.components c)) → AreOwned (m ∷ []) items_settled.left
    unfolding items_settled
    settled_owned m declared = leaves_types declared (leaves_none none_owned)

    -- For each node that is treated in it the names in scope are seen, where they are recorded for it.
    pub settled_sees : ((c : Context) → AllSeen (IsScoped b env c.env) (others c)) → SeesItems E others b G items_settled.left items_settled.judged
    unfolding items_settled
    settled_sees scoped V c l scopes types inside = seen_as (IsScoped b env c.env) (IsSeen scopes types V) each (others c) (scoped c)
      where
        stands : StandsFor V env c.env
        stands = subst (StandsFor V env) (sym l.env) (outside_sees at V c.chosen (on.reads V l.reads) (agrees_before on l.agrees))

        each : (k : ℕ) (F : Environment) (is_typed : Bool) → IsScoped b env c.env k F is_typed → IsSeen scopes types V k F is_typed
        each k F is_typed h = record {
          item = h.item;
          place = h.place;
          number = h.number;
          env = env;
          at = inside.names h.item h.place env h.at;
          stands = subst (StandsFor V env) (sym h.same) stands;
          typed = λ told. absurd (no_yes (sym h.untyped ∙ told));
        }
