-- An item that declares an exception carries what it asks, and the next item starts among the names of before and its own.
use Rattle.std.proofs.Common.{◌≡◌, ◌∙◌, ◌&&◌, ℕ, true, false, List, [], ◌∷◌, ◌++◌, Option, Some, None, option_map, refl, sym, ap, subst}
use Rattle.std.specs.Prelude.{Result, Ok, Err, OnOk}
use Rattle.std.specs.declared.rc.Rc.{Rc}
use Rattle.std.specs.declared.alloc.Global.{Global}
use Rattle.token_model.specs.Kinds.{Tok}
use Rattle.tree_model.specs.Rows.{con_row}
use Rattle.tree_model.specs.Slots.{is_operand}
use Rattle.tree_model.specs.Trees.{Tree, Place, inner}
use Rattle.type_model.specs.Types.{Typ}
use Rattle.text_terms.specs.Bytes.{str_bytes}
use Rattle.signature_model.specs.Declarations.{in_text}
use Rattle.signature_model.specs.Entries.{Environment, entry, an_exception}
use Rattle.signature_model.specs.Entries.{Entry as Named}
use Rattle.signature_model.specs.Records.{is_some}
use Rattle.typing_laws.proofs.Bools.{no_yes, and_both}
use Rattle.typing_model.specs.BuiltIns.{exn_type}
use Rattle.typing_model.specs.Contexts.{Choice, Context, parameters, tell}
use Rattle.typing_model.specs.Declarations.{constructor_row, read_optional, exception_asks, entries_of_exception}
use Rattle.typing_model.specs.Items.{exception_components}
use Rattle.typing_model.specs.Parts.{ConstructorPart, TypeExpression, Seen, no_names, place_of}
use Rattle.typing_conditions.specs.Environments.{defined_at}
use Rattle.env_table.specs.declared.entries.Entry.{Entry}
use Rattle.env_table.specs.Views.{kind_of}
use Rattle.row_parts.specs.Numbered.{numbered, first_in, token_in}
use Rattle.typing_state.specs.declared.parts.Parts.{Parts}
use Rattle.typing_state.specs.Goes.{Goes, OnlyIndex}
use Rattle.typing_state.specs.Notes.{NotedNameless}
use Rattle.typing_conditions.specs.Sights.{Letters, Report}
use Rattle.typing_conditions.specs.Judging.{AllSeen, TellAll}
use Rattle.typing_conditions.proofs.Hiding.{none_doubtful}
use Rattle.typing_steps.specs.Constants.{HasConstants}
use Rattle.typing_steps.specs.States.{is_aloud, sight, fixed_of}
use Rattle.typing_steps.specs.Typing.{as_declared}
use Rattle.typing_steps.proofs.Starting.{constants_kept}
use Rattle.operand_laws.specs.Formed.{row_of, IsFormed, IsPartFormed}
use Rattle.operand_laws.specs.Operands.{number_of, parts_of, type_of}
use Rattle.operand_laws.proofs.Sorts.{first_type_stands}
use Rattle.operand_laws.proofs.Tokens.{token_stands}
use Rattle.type_expressions.specs.Untyped.{Untyped}
use Rattle.typing_rows.specs.Noted.{AreNoted}
use Rattle.typing_rows.proofs.Noted.{noted_on, still_noted}
use Rattle.typing_rows.proofs.Placed.{first_operand}
use Rattle.declared_rows.proofs.Continuing.{fits_declared}
use Rattle.binding_rows.specs.ItemRows.{recorded_exception, IsExceptionNode, AreDeclared, AreOwned, none_owned, leaves_none, leaves_types, leaves_one, ItemsDone, item_at}
use Rattle.binding_rows.specs.Outside.{Outside}
use Rattle.binding_rows.proofs.ItemKinds.{exception_there, none_too, plain_scope, still_scoped, noted_between}
use Rattle.binding_rows.proofs.ItemOrders.{done_one, items_treated, treated_owned, treated_sees, treated_stops, silent_stops, outside_between}
use Rattle.first_laws.specs.Declaring.{OnlyTypes, StartsAfter}
use Rattle.typing_rows.specs.Treating.{IsScoped}
use Rattle.first_laws.proofs.Known.{knows_option}
use Rattle.first_laws.proofs.Exceptions.{outside_exception, exception_known, exception_types}
use Rattle.first_laws.proofs.SettledItems.{types_left, fixed_met, items_settled, settled_sees}
use Rattle.decl_typing.specs.declared.decls.Declared.{Declared}
use Rattle.decl_typing.specs.Denoting.{OptionClosed}
use Rattle.decl_typing.specs.Entering.{DeclaresOne, DeclaresPart, DeclaresPartIf, DeclaresException, DeclaresItem, entered}
use Rattle.decl_typing.proofs.Made.{there_as_well}
use Rattle.declared_items.specs.Adding.{AddedIf, IsKnownException, GivesException, AddsException}
use Rattle.declared_items.proofs.Adding.{item_added_between}
use Rattle.declared_items.proofs.Bare.{closed_bare}
use Rattle.declared_items.proofs.Frames.{own_types, own_at, exn_node, exn_inside, exn_closed, item_frame, frame_declares, starts, names_before, inside_none, exn_denotes}

-- a name is written as one token
one_token : (o : Option Tok) (t u : Tok) → o ≡ Some t → o ≡ Some u → t ≡ u
one_token o t u e f = let g : Some t ≡ Some u = sym e ∙ f in cc

-- a type that isn't there is known
none_known : (o : Option Typ) → is_some o ≡ false → knows_option o ≡ true
none_known None e = refl
none_known (Some t) e = absurd (no_yes (sym e))

-- The exception is declared from a state between items, with its constructor u, which has the number k in the item.
module _ (b d : Parts) {G : Letters} {env : List Entry} {E : Choice → Environment} (at : Outside as_declared (sight b) G env E) (constants : HasConstants b) (k : ℕ) (u : Tree) (name : Tok) (named : token_in u 0 ≡ Some name) (formed : IsFormed k u) (is_con : row_of u ≡ con_row)
    (argument_there : (constructor_row (number_of b.item k) (parts_of b.item k u)).argument ≡ option_map (type_of b.item) (first_in k u 2))
    (aloud : is_aloud b.telling ≡ true) (y : Entry) (one : DeclaresOne b d env k u (exn_node b at constants) y)
    (z : OptionClosed (names_before b at constants []) (λ c. exception_asks c (constructor_row (number_of b.item k) (parts_of b.item k u))) (constructor_row (number_of b.item k) (parts_of b.item k u)).argument (item_frame b at constants) 0 b d (starts b at constants) exn_type one.root)
    (bare : (constructor_row (number_of b.item k) (parts_of b.item k u)).argument ≡ None → z.settled.fixes ≡ []) (untyped : Untyped b d) (goes : Goes b d) where
  abbrev part : ConstructorPart
  part = constructor_row (number_of b.item k) (parts_of b.item k u)

  -- its entry in the definitions
  abbrev named_entry : Named
  named_entry = entry name.name (in_text (place_of name)) (an_exception z.settled.type)

  part_named : part.name ≡ Some name
  part_named = token_stands b.item k u 0 ∙ named

  takes : one.entry.cell.value.has_argument ≡ is_some z.settled.type
  takes = one.entry.takes ∙ sym (z.settled.given ∙ ap is_some argument_there ∙ there_as_well (type_of b.item) (first_in k u 2))

  token_is : name ≡ one.name
  token_is = one_token (token_in u 0) name one.name named one.named

  name_is : name.name ≡ str_bytes y.name
  name_is = ap (λ (t : Tok). t.name) token_is ∙ sym one.entry.name

  placed : defined_at y.place ≡ in_text (place_of name)
  placed = one.entry.placed ∙ ap (λ t. in_text (place_of t)) (sym token_is)

  on_types : OnlyTypes (sight b) (sight d)
  on_types = exception_types (sight d) at (own_types b at constants) (own_at b at constants) (exn_node b at constants) (exn_inside b at constants) (exn_closed b at constants) refl z.to.on z.settled.type z.to.denotes z.closes z.plain z.sound z.level (record { types = untyped.types; noted = still_noted goes; scopes = still_scoped goes })

  next_starts : StartsAfter at (sight d) G (y ∷ []) (named_entry ∷ []) z.numbers
  next_starts = outside_exception (sight d) at (own_types b at constants) (own_at b at constants) (exn_node b at constants) (exn_inside b at constants) (exn_closed b at constants) refl z.to.on z.settled.type z.to.denotes z.closes z.plain z.sound z.level (record { types = untyped.types; noted = still_noted goes; scopes = still_scoped goes })
      y named_entry one.entry.cell one.entry.what one.entry.root takes name_is (sym (ap kind_of one.entry.kind)) placed refl

  next_known : next_starts.outside.known ≡ (at.known && knows_option z.settled.type)
  unfolding next_starts
  next_known = exception_known (sight d) at (own_types b at constants) (own_at b at constants) (exn_node b at constants) (exn_inside b at constants) (exn_closed b at constants) refl z.to.on z.settled.type z.to.denotes z.closes z.plain z.sound z.level (record { types = untyped.types; noted = still_noted goes; scopes = still_scoped goes })
      y named_entry one.entry.cell one.entry.what one.entry.root takes name_is (sym (ap kind_of one.entry.kind)) placed refl

  -- where it takes no argument, all that is to be known of names is known after it
  still_known : IsKnownException at.known k u → next_starts.outside.known ≡ true
  still_known known = next_known ∙ and_both at.known (knows_option z.settled.type) known.0 (none_known z.settled.type (z.settled.given ∙ ap is_some (argument_there ∙ ap (option_map (type_of b.item)) known.1)))

  -- and for each node that is treated in it the names in scope are recorded
  nodes_scoped : (c : Context) → AllSeen (IsScoped (sight d) env c.env) (exception_asks c part)
  nodes_scoped = (one.treats formed is_con aloud).sees

  -- where it takes no argument, nothing is reported in it
  none_told : IsKnownException at.known k u → (c : Context) (told : List Report) → TellAll c.kept (exception_asks c part) told → told ≡ []
  none_told known c told tells = subst (λ o. TellAll c.kept (tell part.node c ++ read_optional (record c { variables = parameters [] }) o) told) (argument_there ∙ ap (option_map (type_of b.item)) known.1) tells

  -- the entries that it adds
  adds_one : (c : Context) → option_map (λ (a : TypeExpression). c.chosen.type_at a.node) part.argument ≡ z.settled.type → entries_of_exception c part ≡ named_entry ∷ []
  adds_one c e =
      ap (λ o. elim o [ None ↦ [] | Some t ↦ entry t.name (in_text (place_of t)) (an_exception (option_map (λ (a : TypeExpression). c.chosen.type_at a.node) part.argument)) ∷ [] ]) part_named
      ∙ ap (λ o. entry name.name (in_text (place_of name)) (an_exception o) ∷ []) e

  -- it declares a type, where it takes an argument
  declared : (a : TypeExpression) → part.argument ≡ Some a → (c : Context) → AreDeclared (exception_components c part)
  declared a e c =
      subst (λ o. AreDeclared (exception_components c (record part { name = o }))) (sym part_named)
      (subst (λ o. AreDeclared (exception_components c (record part { name = Some name; argument = o }))) (sym e) tt)

  -- The item is done, and it adds its name, whatever is chosen.
  pub exception_is_done : (n : ℕ) (seen : Seen) → (sight d).scopes b.item n ≡ Some env → AddedIf (IsKnownException at.known k u) E (recorded_exception b.item n k u) seen no_names b d G (y ∷ env)
  unfolding items_treated items_settled
  exception_is_done n seen here =
      let N = number_of b.item n in
      let carried = items_settled at on_types (own_types b at constants) (own_at b at constants) [] z.settled.settled (λ c. exception_asks c part) (λ c. refl) z.settled.reports (ap is_aloud goes.telling) (ap fixed_of goes.constants)
      (λ V fits. fits_declared (frame_declares b at constants) z.to.on.assigns z.closes V fits) N in
      record {
        done = record {
          letters = G;
          env = λ ch. named_entry ∷ E ch;
          carried = items_treated N carried;
          clear = λ known placed. none_doubtful;
          sees = λ known. treated_sees N b.item n refl here at carried (settled_sees at on_types (own_types b at constants) (own_at b at constants) [] z.settled.settled (λ c. exception_asks c part) (λ c. refl) z.settled.reports (ap is_aloud goes.telling) (ap fixed_of goes.constants)
              (λ V fits. fits_declared (frame_declares b at constants) z.to.on.assigns z.closes V fits) N nodes_scoped);
          stops = λ known. treated_stops N carried (silent_stops carried (none_told known));
          knows = still_known;
          owners = treated_owned N carried (owned part.argument refl);
          outside = next_starts.outside;
          noted = subst (λ U. AreNoted U d) (sym next_starts.older) z.noted;
          adds = λ V c same loose agrees met.
              let fixed = fixed_met at on_types (own_types b at constants) (own_at b at constants) [] z.settled.settled (λ c. exception_asks c part) (λ c. refl) V c same loose agrees (record { kept = met.kept; holds = met.holds.1 }) in
              let one_more = adds_one c (z.settled.gives c.chosen fixed) in
              (λ i. one_more i ++ same i);
          named = λ V c same loose agrees met. refl;
          constants = constants_kept b d goes constants;
        };
        alike = record { added = named_entry ∷ []; names = λ ch. refl; letters = λ V ch given. given };
        untyped = untyped;
      }
    where
      -- what it leaves is its own, or the types of what it declares
      owned : (o : Option TypeExpression) → part.argument ≡ o → AreOwned (recorded_exception b.item n k u ∷ []) (types_left (number_of b.item n) z.settled.fixes ∷ [])
      owned None e = leaves_one refl (bare e) none_owned
      owned (Some a) e = leaves_types (declared a e) (leaves_none none_owned)

-- where a constructor with a name is declared, there is an entry
one_there : (b d : Parts) (env : List Entry) (k : ℕ) (u : Tree) (e : ℕ) (o : Option (Rc Entry Global)) (name : Tok) → token_in u 0 ≡ Some name → DeclaresException b d env k u e o → (y : Entry) × DeclaresOne b d env k u e y × ((es : List Entry) → entered o es ≡ y ∷ es)
one_there b d env k u e None name named none = absurd (let f : Some name ≡ None = sym named ∙ none in cc)
one_there b d env k u e (Some y) name named one = (y.value, one, λ es. refl)

-- The call for an exception of an item, from where the item's node is noted to where its name is in scope: it adds that name.
pub exception_added : {A F : Type 0} (r : Result A F) (a b d : Parts) (env after : List Entry) (n : ℕ) (t : Tree) (declared : Declared) → NotedNameless a b n env None → OnlyIndex a b → Goes a b → DeclaresItem b d env (first_in n t 1) b.constants.exn.0 declared → Untyped b d → Goes b d → OnOk r (after ≡ declared.env) → OnOk r (AddsException a d env after n t)
unfolding outside_between is_operand
exception_added (Err x) a b d env after n t declared noted rest goes item untyped goes' is = tt
exception_added (Ok v) a b d env after n t declared noted rest goes item untyped goes' is = λ G E seen x aloud at constants older.
    let only = noted_between a b n env noted rest in
    let at_b = outside_between only at in
    let constants_b = constants_kept a b goes constants in
    let k = x.operand.number in
    let u = x.constructor in
    let formed : IsFormed k u = subst (IsPartFormed k) x.part (first_operand n t 1 x.operand x.formed x.there).formed in
    let part : DeclaresPart b d env k x.operand.part b.constants.exn.0 item.entry = subst (λ o. DeclaresPartIf b d env o b.constants.exn.0 item.entry) x.there item.declares in
    let (y, one, enters) = one_there b d env k u b.constants.exn.0 item.entry x.name x.named (subst (λ p. DeclaresPart b d env k p b.constants.exn.0 item.entry) x.part part) in
    let closed = closed_bare (constructor_row (number_of b.item k) (parts_of b.item k u)) (one.closes formed x.is (only.aloud ∙ aloud) at_b.level (names_before b at_b constants_b []) (refl, refl) (item_frame b at_b constants_b) 0 at.older (starts b at_b constants_b) (inside_none b at_b constants_b) (noted_on at.older older goes) (exn_denotes b at_b constants_b)) in
    let added = exception_is_done b d at_b constants_b k u x.name x.named formed x.is (first_type_stands b.item k u 2 formed (ap (λ q. is_operand q 2) x.is)) (only.aloud ∙ aloud) y one closed.closed closed.bare untyped goes' n seen
    (ap (λ i. (sight d).scopes i n) rest.item ∙ still_scoped goes' a.item n env (plain_scope a b n env aloud noted)) in
    subst (λ es. AddedIf (IsKnownException at.known k u) E (recorded_exception a.item n k u) seen no_names a d G es) (sym (is ∙ item.behind ∙ enters env))
    (item_added_between only (subst (λ i. AddedIf (IsKnownException at.known k u) E (recorded_exception i n k u) seen no_names b d G (y ∷ env)) rest.item added))

-- So it is done.
pub exception_given : {A F : Type 0} (r : Result A F) (a d : Parts) (env after : List Entry) (n : ℕ) (t : Tree) → OnOk r (AddsException a d env after n t) → OnOk r (GivesException a d env after n t)
exception_given (Err x) a d env after n t adds = tt
exception_given (Ok v) a d env after n t adds = λ G E seen x aloud at constants older. (adds G E seen x aloud at constants older).done

-- An exception at an operand is done; it names no type and no module.
pub exception_done : (a b : Parts) (env after : List Entry) (n : ℕ) (place : Place) (t : Tree) (G : Letters) (E : Choice → Environment) (seen : Seen) (x : IsExceptionNode n t) → is_aloud a.telling ≡ true → (at : Outside as_declared (sight a) G env E) → HasConstants a → AreNoted at.older a → GivesException a b env after n t →
    ItemsDone as_declared (IsKnownException at.known x.operand.number x.constructor) E (item_at a.item (numbered n place (inner t))) seen seen a b G after
exception_done a b env after n place t G E seen x aloud at constants older gives =
    let K = IsKnownException at.known x.operand.number x.constructor in
    let m = recorded_exception a.item n x.operand.number x.constructor in
    subst (λ ms. ItemsDone as_declared K E ms seen seen a b G after) (sym (exception_there a.item n place t x))
    (subst (λ names. ItemsDone as_declared K E (m ∷ []) seen names a b G after) (none_too seen) (done_one (gives G E seen x aloud at constants older)))
