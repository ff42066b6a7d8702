-- An item that declares one type of its own carries what it asks, and the next item starts among the names of before and its own.
use Rattle.std.proofs.Common.{◌≡◌, ◌∙◌, ℕ, ◌<◌, ◌^◌, true, List, [], ◌∷◌, ◌++◌, length, map, reverse, Option, Some, None, option_map, refl, sym, ap, subst, append-nil, arith}
use Rattle.std.proofs.lemmas.List.{length-map}
use Rattle.std.proofs.lemmas.List.Elements.{All-nil, All-cons}
use denote.Ref.{Bor}
use Rattle.syntax_tree.specs.declared.tree.Token.{Token}
use Rattle.syntax_tree.specs.View.{tok_of}
use Rattle.token_model.specs.Kinds.{Tok}
use Rattle.tree_model.specs.Trees.{Tree}
use Rattle.row_parts.specs.Numbered.{token_view}
use Rattle.type_model.specs.Types.{Typ}
use Rattle.signature_model.specs.Declarations as rules
use Rattle.signature_model.specs.Declarations.{Name, type_of}
use Rattle.signature_model.specs.Entries.{Environment, entries_of_shape}
use Rattle.typing_model.specs.Contexts.{Choice, Context, under, parameters}
use Rattle.typing_model.specs.Declarations.{type_entry, declaration_of, declaration_asks, declarations_ask, cycles_asked, names_asked, names_of_types, entries_of_group, declaration_row}
use Rattle.typing_model.specs.Demands.{Condition}
use Rattle.typing_model.specs.Items.{names_of_declarations}
use Rattle.typing_model.specs.Parts as parts
use Rattle.typing_model.specs.Parts.{Item, Seen, no_names}
use Rattle.type_nodes.specs.Nodes.{IsSound}
use Rattle.type_nodes.specs.Readings.{Types, Fits}
use Rattle.level_unify.specs.Solutions.{Loose}
use Rattle.level_unify.proofs.Unified.{fits_loosely}
use Rattle.env_table.specs.declared.entries.Declaration.{Declaration}
use Rattle.env_table.specs.declared.entries.Entry.{Entry}
use Rattle.typing_state.specs.declared.parts.Parts.{Parts}
use Rattle.typing_conditions.specs.Environments.{of_type, entry_as, newest}
use Rattle.typing_conditions.specs.Sights.{Sight, Letters, SameAt}
use Rattle.typing_conditions.proofs.Own.{own_of}
use Rattle.typing_steps.specs.Constants.{HasConstants}
use Rattle.typing_steps.specs.States.{is_aloud, sight, fixed_of, reports_of}
use Rattle.typing_steps.specs.Typing.{as_declared}
use Rattle.typing_steps.proofs.Starting.{constants_kept}
use Rattle.operand_laws.specs.Operands.{number_of, parts_of}
use Rattle.type_expressions.specs.Untyped.{Untyped}
use Rattle.type_expressions.proofs.Untyped.{untyped_then}
use Rattle.typing_rows.specs.Around.{TypesAs}
use Rattle.typing_rows.specs.Noted.{AreNoted}
use Rattle.typing_rows.specs.Settled.{AreFixed, IsBehind}
use Rattle.typing_rows.proofs.Noted.{noted_on}
use Rattle.typing_rows.proofs.Surrounding.{known_by}
use Rattle.declared_rows.proofs.Continuing.{fits_declared}
use Rattle.binding_rows.specs.ItemRows.{AreDeclared, AreOwned, none_owned, leaves_none, leaves_types}
use Rattle.binding_rows.specs.Outside.{AgreesOutside, Outside, Left, EntersItems, ItemsCarried, OnlyBetween}
use Rattle.binding_rows.proofs.ItemOrders.{agrees_earlier, stays_between, outside_between, items_treated, items_inside}
use Rattle.first_laws.specs.Declaring.{OnlyTypes, StartsAfter}
use Rattle.first_laws.proofs.Declared.{agrees_before}
use Rattle.first_laws.proofs.Within.{types_both, grows_both, outside_within}
use Rattle.decl_groups.specs.declared.groups.DeclarationPart.{DeclarationPart}
use Rattle.decl_groups.specs.Written as written
use Rattle.decl_groups.specs.Written.{node_first, nodes_as, declaration_in, declarations_in, declaration_view}
use Rattle.decl_typing.specs.declared.decls.Declared.{Declared}
use Rattle.decl_typing.specs.Asked.{tokens_as}
use Rattle.decl_typing.specs.Entering.{alone}
use Rattle.decl_typing.specs.Entries.{values_of, EntriesOf}
use Rattle.decl_typing.specs.Groups.{DeclaresGroup, DeclaresTypes}
use Rattle.decl_typing.specs.Owned.{IsOwnRight, AreOwnRights, told_in, told_as, own_asks, TypeDeclared}
use Rattle.decl_typing.specs.Parameters.{token_names}
use Rattle.declared_items.specs.Adding.{ItemAdded}
use Rattle.declared_items.specs.Items.{recorded_types, recorded_type}
use Rattle.declared_items.specs.Shapes.{shape_by, own_declaration}
use Rattle.declared_items.specs.Written.{IsOwnNode, IsOwnTypeNode}
use Rattle.declared_items.proofs.Declared.{declaration_written, right_own, told_well, parameters_few}
use Rattle.declared_items.proofs.Frames.{own_types, own_at, item_frame, frame_declares, starts, starts_assigned, names_before, types_known}
use Rattle.declared_items.proofs.Grouped.{OneDeclared, group_one, index_between}
use Rattle.declared_items.proofs.Shapes.{shape_is, asks_own, declares_own}
use Rattle.declared_items.proofs.Within.{types_as, agrees_further, within_met, within_settled}
use Rattle.declared_items.proofs.Types.{own_rule, closed, opaque_starts, type_starts}

-- all that is left is owned by one item that declares something
pub owned_all : {m : Item} (ls : List Left) → ((c : Context) → AreDeclared (m.components c)) → AreOwned (m ∷ []) ls
owned_all [] declared = leaves_none none_owned
owned_all (l ∷ ls) declared = leaves_types declared (owned_all ls declared)

-- Names stand for those of the definitions as far as types are found by them, whatever the declaration of the newest tells of its values.
told_otherwise : {named : Declaration → Typ} {es : List Entry} (E : Environment) (o : Option Tok) (r s : rules.Declaration) → s.arity ≡ r.arity → type_of s ≡ type_of r → TypesAs named es (type_entry r o ++ E) → TypesAs named es (type_entry s o ++ E)
told_otherwise E None r s arity type types = types
told_otherwise E (Some t) r s arity type (newest (entry_as name kind place (of_type what known)) rest) = newest (entry_as name kind place (of_type what (arity ∙ known.0, type ∙ known.1))) rest

-- A type of its own is declared between items, from b to d, by the declaration p with the number k, whose node is t; it is between before the state in which its entries are recorded.
module _ (b d : Parts) {G : Letters} {env : List Entry} {E : Choice → Environment} (at : Outside as_declared (sight b) G env E) (constants : HasConstants b) (noted : AreNoted at.older b) (aloud : is_aloud b.telling ≡ true) (k : ℕ) (t : Tree) (node : IsOwnNode k t) (p : DeclarationPart)
    (is : declaration_view p ≡ declaration_in k t) (declared : Declared) (one : OneDeclared env b d p declared) where
  abbrev begun : Parts
  begun = one.begun

  abbrev between : Parts
  between = one.own.between

  abbrev x : Declaration
  x = one.own.declaration

  few : length p.parameters.items < 2 ^ 32
  few = parameters_few k t p node is

  own : IsOwnRight p.right
  own = right_own k t p node is

  name_there : token_view p.name ≡ Some node.name
  name_there = ap (λ (w : written.Declaration). w.name) is ∙ node.named

  -- the declaration in the definitions
  abbrev part : parts.DeclarationPart
  part = own_declaration (number_of begun.item p.number) (Some node.name) (tokens_as p.parameters.items) (option_map (told_as begun.item) (told_in p.right))

  abbrev group : List parts.DeclarationPart
  group = part ∷ []

  abbrev names : List Name
  names = token_names p.parameters.items

  -- the names inside the group
  abbrev inner : List Entry
  inner = values_of (alone one.name.entry) ++ env

  abbrev E_inner : Choice → Environment
  E_inner ch = type_entry (own_rule b.item p rules.Opaque) (Some node.name) ++ E ch

  -- its name is in scope
  in_scope : StartsAfter at (sight begun) G (values_of (alone one.name.entry)) (type_entry (own_rule b.item p rules.Opaque) (Some node.name)) at.older
  in_scope = subst (λ o. StartsAfter at (sight begun) G (values_of (alone one.name.entry)) (type_entry (own_rule b.item p rules.Opaque) o) at.older) name_there
      (opaque_starts b begun at constants p one.name.declaration one.name.makes few one.untyped one.goes one.name.entry one.name.named)

  abbrev at_inner : Outside as_declared (sight begun) G inner E_inner
  at_inner = in_scope.outside

  constants_inner : HasConstants begun
  constants_inner = constants_kept b begun one.goes constants

  noted_inner : AreNoted at_inner.older begun
  noted_inner = subst (λ U. AreNoted U begun) (sym in_scope.older) (noted_on at.older noted one.goes)

  -- there it is declared
  z : TypeDeclared (names_before begun at_inner constants_inner names) (item_frame begun at_inner constants_inner) begun between (starts begun at_inner constants_inner) p x.root.0 (option_map (λ o. o.path.items) x.defines) x.shape
  z = one.own.declares own (told_well k t p node is).parts (ap is_aloud one.goes.telling ∙ aloud) at_inner.level (names_before begun at_inner constants_inner names) (refl, refl) (item_frame begun at_inner constants_inner) at_inner.older (starts begun at_inner constants_inner)
      (starts_assigned begun at_inner constants_inner) (types_known begun at_inner constants_inner) noted_inner

  entries_are : EntriesOf x p declared.entries.items
  entries_are = let (es, all, are) = one.own.adds (told_well k t p node is).few in subst (EntriesOf x p) (sym all) are

  -- its declaration and its entries in the definitions
  abbrev rule : rules.Declaration
  rule = own_rule begun.item p (shape_by z.made)

  abbrev F : Environment
  F = reverse (type_entry rule (Some node.name) ++ entries_of_shape rule rule.shape)

  declared_there : StartsAfter at_inner (sight between) G (reverse (values_of declared.entries.items)) F z.numbers
  declared_there = subst (λ o. StartsAfter at_inner (sight between) G (reverse (values_of declared.entries.items)) (reverse (type_entry rule o ++ entries_of_shape rule rule.shape)) z.numbers) name_there
      (type_starts begun between at_inner constants_inner p x z (one.own.arity few) one.own.origin one.own.untyped one.own.goes declared.entries.items entries_are)

  -- outside the group its entries are in scope, and the names of before
  next : StartsAfter at (sight between) G (reverse (values_of declared.entries.items)) F declared_there.outside.older
  next = outside_within at declared_there.outside (grows_both in_scope.grows declared_there.grows) (λ V ch h. h) (reverse (values_of declared.entries.items)) F declared_there.grows.entries

  on : OnlyTypes (sight b) (sight between)
  on = types_both in_scope.grows.on declared_there.grows.on

  -- types with which the item is entered go on to where its name is in scope, and from there to where it is declared
  first_fits : (V : Types) → Fits b.store.nodes V → (W : Types) × Fits begun.store.nodes W × SameAt b.store.nodes V W
  first_fits V fits = fits_declared (frame_declares b at constants) (closed b begun at constants p one.name.declaration one.name.makes few one.untyped one.goes).to.on.assigns (closed b begun at constants p one.name.declaration one.name.makes few one.untyped one.goes).closes V fits

  both_fit : (V : Types) → Fits b.store.nodes V → (W : Types) × Fits between.store.nodes W × SameAt b.store.nodes V W
  both_fit V fits =
      let (W, one_fits, same) = first_fits V fits in
      let (X, two_fits, again) = fits_declared (frame_declares begun at_inner constants_inner) z.on.assigns z.closes W one_fits in
      let (K, own_k) = own_of begun.store.nodes in_scope.grows.on.sound in
      (X, two_fits, λ n lt. again n (let le = (in_scope.grows.on.refines K own_k).longer in omega (arith, lt, le)) ∙ same n lt)

  -- the names in scope inside the group, in a context
  abbrev surround : Context → Environment
  surround c = names_of_types c group group c.env

  -- its declaration there has the type that the code's is known by
  same_arity : (c : Context) → (declaration_of c group part).arity ≡ (own_rule b.item p rules.Opaque).arity
  same_arity c = length-map p.parameters.items (λ (u : Bor Token). tok_of u.now)

  same_type : (c : Context) → type_of (declaration_of c group part) ≡ type_of (own_rule b.item p rules.Opaque)
  same_type c =
      ap type_of (declares_own c group (number_of begun.item p.number) (Some node.name) (tokens_as p.parameters.items) (option_map (told_as begun.item) (told_in p.right)))
      ∙ (λ j. type_of (record { arity = same_arity c j; definition = rules.Own (number_of (one.goes.item j) p.number ∷ []); shape = rules.Opaque }))

  types_inside : (c : Context) → c.env ≡ E c.chosen → TypesAs (known_by at_inner.names (own_types begun at_inner constants_inner)) inner (E_inner c.chosen) → TypesAs (known_by at_inner.names (own_types begun at_inner constants_inner)) inner (surround c)
  types_inside c same types = told_otherwise c.env (Some node.name) (own_rule b.item p rules.Opaque) (declaration_of c group part) (same_arity c) (same_type c)
      (subst (λ e. TypesAs (known_by at_inner.names (own_types begun at_inner constants_inner)) inner (type_entry (own_rule b.item p rules.Opaque) (Some node.name) ++ e)) (sym same) types)

  stands : (V : Types) (c : Context) → c.env ≡ E c.chosen → Loose begun.store.nodes V → AgreesOutside (sight begun) G V c.chosen → IsBehind (names_before begun at_inner constants_inner names) (record (under (surround c) c) { variables = parameters names })
  stands V c same loose agrees = record {
    types = types_inside c same (types_as at_inner (own_types begun at_inner constants_inner) (own_at begun at_inner constants_inner) V (under (E_inner c.chosen) c) refl loose agrees);
    variables = refl;
    kept = tt;
    fixed = tt;
  }

  earlier : (V : Types) (c : Context) → EntersItems E (sight b) G V c → IsBehind (names_before begun at_inner constants_inner names) (record (under (surround c) c) { variables = parameters names })
  earlier V c e =
      let (W, fits, before) = first_fits V e.fits in
      stands W c e.env (fits_loosely begun.store.nodes W fits) (agrees_further in_scope.grows.on V W c e before)

  later : (V : Types) (c : Context) → c.env ≡ E c.chosen → Loose between.store.nodes V → AgreesOutside (sight between) G V c.chosen → IsBehind (names_before begun at_inner constants_inner names) (record (under (surround c) c) { variables = parameters names })
  later V c same loose agrees =
      let (K, own_k) = own_of between.store.nodes declared_there.grows.on.sound in
      stands V c same ((declared_there.grows.on.refines K own_k).loose V loose) (agrees_before declared_there.grows.on agrees)

  -- what is asked of it besides that its name is new
  abbrev asks : Context → List Condition
  asks c = declarations_ask (under (surround c) c) group group ++ cycles_asked group group

  no_cycles : (o : Option parts.Told) → cycles_asked (own_declaration (number_of begun.item p.number) (Some node.name) (tokens_as p.parameters.items) o ∷ []) (own_declaration (number_of begun.item p.number) (Some node.name) (tokens_as p.parameters.items) o ∷ []) ≡ []
  no_cycles None = refl
  no_cycles (Some r) = refl

  -- in these surroundings it is what was settled
  same_asks : (c : Context) → own_asks (number_of begun.item p.number) (tokens_as p.parameters.items) (option_map (told_as begun.item) (told_in p.right)) (record (under (surround c) c) { variables = parameters names }) ≡ asks c
  same_asks c =
      sym (ap (λ cs. declarations_ask (under (surround c) c) group group ++ cs) (no_cycles (option_map (told_as begun.item) (told_in p.right)))
      ∙ append-nil (declarations_ask (under (surround c) c) group group)
      ∙ append-nil (declaration_asks (under (surround c) c) group part)
      ∙ asks_own (under (surround c) c) group (number_of begun.item p.number) (Some node.name) (tokens_as p.parameters.items) (option_map (told_as begun.item) (told_in p.right)))

  told_reports : (sight between).reports ≡ (sight b).reports ++ z.reported
  told_reports = z.reports ∙ ap (λ f. reports_of f.list.items ++ z.reported) one.name.rest.faults

  same_aloud : (sight between).aloud ≡ (sight b).aloud
  same_aloud = ap is_aloud (one.own.goes.telling ∙ one.goes.telling)

  same_fixed : (sight between).fixed ≡ (sight b).fixed
  same_fixed = ap fixed_of (one.own.goes.constants ∙ one.goes.constants)

  -- That is carried.
  abbrev carried : (n : ℕ) → ItemsCarried E asks (sight b) G (sight between) G
  carried n = within_settled on surround names z.settled asks same_asks earlier later told_reports same_aloud same_fixed both_fit n

  -- it adds the entries that were declared
  adds_own : (c : Context) → AreFixed z.fixes c.chosen → reverse (entries_of_group c group group) ≡ F
  adds_own c fixed =
      let told = shape_is c z.made fixed in
      let declares : declaration_of c group part ≡ rule = declares_own c group (number_of begun.item p.number) (Some node.name) (tokens_as p.parameters.items) (option_map (told_as begun.item) (told_in p.right))
      ∙ (λ j. record { arity = same_arity c j; definition = rules.Own (number_of begun.item p.number ∷ []); shape = told j }) in
      ap reverse (append-nil (type_entry (declaration_of c group part) (Some node.name) ++ entries_of_shape (declaration_of c group part) (declaration_of c group part).shape)
      ∙ ap (λ e. type_entry e (Some node.name) ++ entries_of_shape e e.shape) declares)

  -- The item is done, and adds its entries, whatever is chosen, where it was judged before whether its name is new.
  pub type_is_done : (a first : Parts) (n : ℕ) (seen : Seen) → IsSound a.store.nodes → Untyped a b → ItemsCarried E (λ c. names_asked seen.types group) (sight a) G (sight first) G → OnlyBetween (sight first) (sight b) →
      ItemAdded E (recorded_types n group) seen (record no_names { types = names_of_declarations group }) a d G (reverse (values_of declared.entries.items) ++ env)
  unfolding items_treated within_settled outside_between
  type_is_done a first n seen sound untyped asked only =
      let last = index_between one.own.rest one.own.types one.own.notes in
      let inside = items_inside sound asked only (carried n) last in
      let whole = items_treated n inside.carried in
      record {
        done = record {
          letters = G;
          env = λ ch. F ++ E ch;
          carried = whole;
          owners = owned_all whole.left (λ c. tt);
          clear = λ k placed. absurd k;
          sees = λ k. absurd k;
          stops = λ k. absurd k;
          knows = λ k. absurd k;
          outside = outside_between last next.outside;
          noted = subst (λ U. AreNoted U d) (sym (next.older ∙ declared_there.older)) (noted_on z.numbers z.noted one.own.notes);
          adds = λ V c same loose agrees met.
              let within = inside.met c (record { kept = met.kept; holds = met.holds.1 }) in
              let fixed = within_met on surround names z.settled asks same_asks earlier later V c same (subst (λ ns. Loose ns V) last.nodes loose) (agrees_earlier (stays_between last) agrees) within in
              let more = adds_own c fixed in
              (λ i. more i ++ same i);
          named = λ V c same loose agrees met. refl;
          constants = constants_kept between d one.own.notes (constants_kept begun between one.own.goes constants_inner);
        };
        alike = record { added = F; names = λ ch. refl; letters = λ V ch given. given };
        untyped = untyped_then untyped (untyped_then one.untyped (untyped_then one.own.untyped one.own.types));
      }

  -- and its declaration is the one that the definitions take from its node
  pub type_written : declaration_row (number_of begun.item k) (parts_of begun.item k t) ≡ part
  type_written = declaration_written begun.item k t p node own is ∙ (λ j. own_declaration (number_of begun.item p.number) (name_there j) (tokens_as p.parameters.items) (option_map (told_as begun.item) (told_in p.right)))

-- one state between items after another
between_both : {a b c : Sight} → OnlyBetween a b → OnlyBetween b c → OnlyBetween a c
between_both p q = record {
  nodes = q.nodes ∙ p.nodes;
  types = λ i k. q.types i k ∙ p.types i k;
  noted = λ i k h. q.noted i k (p.noted i k h);
  scopes = λ i k env h. q.scopes i k env (p.scopes i k env h);
  reports = q.reports ∙ p.reports;
  aloud = q.aloud ∙ p.aloud;
  level = q.level ∙ p.level;
  fixed = q.fixed ∙ p.fixed;
}

-- what is written as one declaration is one of the code
one_written : (ps : List DeclarationPart) (w : written.Declaration) → map declaration_view ps ≡ w ∷ [] → (p : DeclarationPart) × (ps ≡ p ∷ []) × (declaration_view p ≡ w)
one_written [] w e = absurd (cc)
one_written (p ∷ []) w e = (p, refl, (let f : declaration_view p ≡ w = cc in f))
one_written (p ∷ q ∷ ps) w e = absurd (cc)

-- The item is done by a call that declares what is written, from b on, if the demand that its name is new was carried before it, from a on. It adds the same entries whatever is chosen.
pub type_given : (a first b d : Parts) {G : Letters} {env : List Entry} {E : Choice → Environment} (n : ℕ) (t : Tree) (x : IsOwnTypeNode n t) (declared : Declared) → DeclaresTypes env b d n t declared → IsSound a.store.nodes → b.item ≡ a.item → Untyped a b → OnlyBetween (sight first) (sight b) → (at : Outside as_declared (sight b) G env E) → HasConstants b → AreNoted at.older b →
    is_aloud b.telling ≡ true → (seen : Seen) → ItemsCarried E (λ c. names_asked seen.types (declaration_row (number_of a.item x.operand.number) (parts_of a.item x.operand.number x.declaration) ∷ [])) (sight a) G (sight first) G →
    ItemAdded E (recorded_type a.item n x.operand.number x.declaration) seen (record no_names { types = x.is.name.name ∷ [] }) a d G declared.env
unfolding outside_between
type_given a first b d {G} {env} {E} n t x declared types sound item untyped only at constants older aloud seen asked =
    let k = x.operand.number in
    let u = x.declaration in
    let one_operand : declarations_in n t ≡ declaration_in k u ∷ [] = ap (nodes_as declaration_in) x.only ∙ ap (λ q. node_first declaration_in k q []) x.part in
    let (p, alone_is, is) = one_written types.parts (declaration_in k u) (types.written ∙ one_operand) in
    let own = right_own k u p x.is is in
    let group = subst (λ ps. AreOwnRights ps → DeclaresGroup env types.noted d ps declared) alone_is types.declares (All-cons (λ (q : DeclarationPart). IsOwnRight q.right) p [] own (All-nil (λ (q : DeclarationPart). IsOwnRight q.right))) in
    let one = group_one group in
    let further = index_between types.rest types.untyped types.goes in
    let at_noted = outside_between further at in
    let constants_noted = constants_kept b types.noted types.goes constants in
    let older_noted = noted_on at.older older types.goes in
    let loud = ap is_aloud types.rest.telling ∙ aloud in
    let i : one.begun.item ≡ a.item = one.goes.item ∙ types.rest.item ∙ item in
    let row = type_written types.noted d at_noted constants_noted older_noted loud k u x.is p is declared one in
    let rows : declaration_row (number_of one.begun.item k) (parts_of one.begun.item k u) ≡ declaration_row (number_of a.item k) (parts_of a.item k u) = (λ j. declaration_row (number_of (i j) k) (parts_of (i j) k u)) in
    let same = sym rows ∙ row in
    subst (λ es. ItemAdded E (recorded_type a.item n k u) seen (record no_names { types = x.is.name.name ∷ [] }) a d G es) (sym one.behind)
    (subst (λ y. ItemAdded E (recorded_types (number_of a.item n) (y ∷ [])) seen (record no_names { types = x.is.name.name ∷ [] }) a d G (reverse (values_of declared.entries.items) ++ env)) (sym same)
    (type_is_done types.noted d at_noted constants_noted older_noted loud k u x.is p is declared one a first (number_of a.item n) seen sound (untyped_then untyped types.untyped)
    (subst (λ y. ItemsCarried E (λ c. names_asked seen.types (y ∷ [])) (sight a) G (sight first) G) same asked) (between_both only further)))
