-- What a text of `let`, `;;` and exceptions without an argument asks holds of what is left of types.
use Rattle.std.proofs.Common.{◌≡◌, ℕ, ◌+◌, Bool, true, List, [], ◌∷◌, ◌++◌, Option, Some, None, option_map, refl}
use Rattle.token_model.specs.Kinds.{Tok}
use Rattle.tree_model.specs.Trees.{Place, Tree, Forest, Part, node, no_parts, part, taken, inner, missing, part_size, part_yield}
use Rattle.tree_model.specs.Rows.{Row, binding_row, case_row, ffield_row, qfield_row, let_row, exception_row, break_row}
use Rattle.type_model.specs.Types.{Typ}
use Rattle.type_model.specs.Schemes.{Scheme}
use Rattle.signature_model.specs.Declarations.{Name, in_text}
use Rattle.signature_model.specs.Declarations as declarations
use Rattle.signature_model.specs.Entries.{Environment, entry, a_value, an_exception}
use Rattle.typing_model.specs.Demands.{Site}
use Rattle.typing_model.specs.Contexts.{Choice, Bound, Context, parameters, type_at, entries_with, generalised_in}
use Rattle.typing_model.specs.Parts.{Expression, Pattern, TypeExpression, Binding, ConstructorPart, Item, Seen, seen_too, no_names, Child, token_in, no_expression_at, no_pattern_at, no_type_at, types_in, expressions_in, patterns_in, place_of}
use Rattle.typing_model.specs.Bindings.{names_of_group, held_by}
use Rattle.typing_model.specs.Expressions.{expression_row, bindings_in, is_some}
use Rattle.typing_model.specs.Patterns.{pattern_row}
use Rattle.typing_model.specs.TypeExpressions.{type_row}
use Rattle.typing_model.specs.Declarations.{read_optional}
use Rattle.typing_model.specs.Items.{names_made, let_item, exception_item, no_item, items_ask, variables_written}
use Rattle.typing_model.specs.Modules.{item_row}
use Rattle.typing_model.specs.Meanings.{binding_of, case_of, field_of, field_pattern_of, recorded_expression, recorded_pattern, recorded_type, recorded_item, node_child, leaf_child, children_of, child_of, tree_child, item_base, items_from, items_of}
use Rattle.typing_model.specs.Typings.{conditions_of}
use Rattle.typing_model.specs.Plain.{is_value_row, has_values_alone}
use Rattle.fault_model.specs.Values.{is_bare_item, are_bare}
use Rattle.typing_laws.proofs.Bools.{no_yes, and_cases}
use Rattle.typing_laws.proofs.Steady.{Each, no_one, one_and, IfThere, absent, there}
use Rattle.typing_laws.proofs.SteadyRows.{first_there}
use Rattle.demand_laws.proofs.Rows as alike
use Rattle.demand_laws.proofs.Texts.{node_alike, leaf_alike}
use Rattle.demand_laws.proofs.Bare.{TakesNone, constructor_among, IsBareRow, item_bare}
use Rattle.settled_types.specs.Made.{Constructors, names_made_of}
use Rattle.settled_types.proofs.Found.{ErasedScheme, ErasedNames, as_made, next, next_exception}
use Rattle.settled_types.proofs.Goes.{rest, chosen_rest, Goes, nothing_goes, behind, at_treated, at_known, at_made, Pair, left, right, RestName, general_left, along}
use Rattle.settled_types.proofs.Types.{GoesType, no_type_goes}
use Rattle.settled_types.proofs.Patterns.{GoesPattern, GoesFieldPattern, no_pattern_goes}
use Rattle.settled_types.proofs.Bindings.{GoesTyped, GoesBinding, group_names, bindings_go, group_held}
use Rattle.settled_types.proofs.Expressions.{GoesCase, GoesField, no_expression_goes}
use Rattle.settled_types.proofs.Rows.{GoesChild, alike_all, expressions_goes, patterns_goes, types_goes, expression_goes, one_pattern_goes, bindings_goes, expression_row_goes, pattern_row_goes, type_row_goes}

module _ (w : Constructors) where
  -- a part that tells its environment first
  expression_told : (n : ℕ) (e : Expression) → GoesTyped w e → GoesTyped w (recorded_expression n e)
  expression_told n e s = record { types = λ c. at_treated (at_known w refl (s.types c)); negates = λ c. at_treated (at_known w refl (s.negates c)) }

  pattern_told : (n : ℕ) (p : Pattern) → GoesPattern w p → GoesPattern w (recorded_pattern n p)
  pattern_told n p s = record { names = s.names; matches = λ c seen. at_treated (at_known w refl (s.matches c seen)) }

  type_told : (n : ℕ) (t : TypeExpression) → GoesType w t → GoesType w (recorded_type n t)
  type_told n t s = record { reads = λ c. at_treated (s.reads c); reads_group = λ c. at_treated (s.reads_group c) }

  -- the parts that are no node of a sort of their own
  binding_goes : (r : Row) (n : ℕ) (cs : List Child) → Each (GoesChild w) cs → IfThere (GoesBinding w) (binding_of r n cs)
  binding_goes binding_row n cs h = there (record {
    alike = record {
      pattern = alike.one_pattern_alike 0 cs (alike_all w cs h);
      parameters = alike.patterns_alike 1 cs (alike_all w cs h);
      annotation = first_there (types_in 3 cs) (alike.types_alike 3 cs (alike_all w cs h));
      body = alike.expression_alike 5 cs (alike_all w cs h);
    };
    pattern = one_pattern_goes w 0 cs h;
    parameters = patterns_goes w 1 cs h;
    annotation = first_there (types_in 3 cs) (types_goes w 3 cs h);
    body = expression_goes w 5 cs h;
  })
  binding_goes _ n cs h = absent

  case_goes : (r : Row) (n : ℕ) (cs : List Child) → Each (GoesChild w) cs → IfThere (GoesCase w) (case_of r n cs)
  case_goes case_row n cs h = there (record { pattern = one_pattern_goes w 0 cs h; guard = first_there (expressions_in 2 cs) (expressions_goes w 2 cs h); body = expression_goes w 4 cs h })
  case_goes _ n cs h = absent

  field_goes : (r : Row) (n : ℕ) (cs : List Child) → Each (GoesChild w) cs → IfThere (GoesField w) (field_of r n cs)
  field_goes ffield_row n cs h = there (record { value = first_there (expressions_in 3 cs) (expressions_goes w 3 cs h) })
  field_goes _ n cs h = absent

  field_pattern_goes : (r : Row) (n : ℕ) (cs : List Child) → Each (GoesChild w) cs → IfThere (GoesFieldPattern w) (field_pattern_of r n cs)
  field_pattern_goes qfield_row n cs h = there (record { pattern = first_there (patterns_in 3 cs) (patterns_goes w 3 cs h) })
  field_pattern_goes _ n cs h = absent

  -- a node over such parts, and a part that is none
  node_goes : (slot : ℕ) (p : Part) (r : Row) (n : ℕ) (q : Place) (cs : List Child) → Each (GoesChild w) cs → GoesChild w (node_child slot p r n q cs)
  node_goes slot p r n q cs h =
      let a = node_alike slot p r n q cs (alike_all w cs h) in
      record {
        alike = a;
        expression = record { alike = a.expression; goes = expression_told n (expression_row r n q cs) (expression_row_goes w r n q cs h) };
        pattern = pattern_told n (pattern_row r n q cs) (pattern_row_goes w r n q cs h);
        type_expression = type_told n (type_row r n q cs) (type_row_goes w r n q cs h);
        binding = binding_goes r n cs h;
        case = case_goes r n cs h;
        field = field_goes r n cs h;
        field_pattern = field_pattern_goes r n cs h;
      }

  leaf_goes : (slot : ℕ) (p : Part) (n : ℕ) (q : Place) → GoesChild w (leaf_child slot p n q)
  leaf_goes slot p n q =
      let a = leaf_alike slot p n q in
      record {
        alike = a;
        expression = record { alike = a.expression; goes = expression_told n (no_expression_at n q) (no_expression_goes w n q) };
        pattern = pattern_told n (no_pattern_at n q) (no_pattern_goes w n q);
        type_expression = type_told n (no_type_at n q) (no_type_goes w n q);
        binding = absent;
        case = absent;
        field = absent;
        field_pattern = absent;
      }

  mutual
    children_go : (n : ℕ) (r : Row) (ps : Forest) → Each (GoesChild w) (children_of n r ps)
    children_go n r no_parts = no_one
    children_go n r (part slot p ps) = one_and (child_goes n slot p) (children_go (n + part_size r slot p) r ps)

    child_goes : (n : ℕ) (slot : ℕ) (p : Part) → GoesChild w (child_of n slot p)
    child_goes n slot (taken t) = leaf_goes slot (taken t) n (place_of t)
    child_goes n slot (inner t) = tree_goes n slot t
    child_goes n slot (missing p) = leaf_goes slot (missing p) n p

    tree_goes : (n : ℕ) (slot : ℕ) (t : Tree) → GoesChild w (tree_child n slot t)
    tree_goes n slot (node r x ps) = node_goes slot (inner (node r x ps)) r n x.span (children_of (n + 1) r ps) (children_go (n + 1) r ps)

  -- names of values that are added, with what is left of their types, and of exceptions without an argument
  pub data RestEntries : Environment → Environment → Type 0 where
    no_entries : RestEntries [] []
    an_entry_too : {n : _} {at : _} {s z : Scheme} {E F : Environment} → ErasedScheme w.all s z → RestEntries E F → RestEntries (entry n at (a_value s) ∷ E) (entry n at (a_value z) ∷ F)
    an_exception_too : {n : Name} {at : declarations.Place} {E F : Environment} → RestEntries E F → RestEntries (entry n at (an_exception None) ∷ E) (entry n at (an_exception None) ∷ F)

  names_added : (f g : Typ → Scheme) (c : Pair w) (bs : List Bound) → Each (RestName w) bs → ((t u : Typ) → u ≡ rest w t → ErasedScheme w.all (f t) (g u)) → {E F : Environment} → RestEntries E F → RestEntries (entries_with f (left c) bs E) (entries_with g (right c) bs F)
  names_added f g c [] no_one h n = n
  names_added f g c (b ∷ bs) (one_and s each) h n = names_added f g c bs each h (an_entry_too (h (b.has_type (left c)) (b.has_type (right c)) (s.gives c)) n)

  in_front : {xs ys E F : Environment} → RestEntries xs ys → ErasedNames w.all E F → ErasedNames w.all (xs ++ E) (ys ++ F)
  in_front no_entries h = h
  in_front (an_entry_too s a) h = next s (in_front a h)
  in_front (an_exception_too a) h = next_exception (in_front a h)

  -- an item's conditions hold of what is left, and so do the names that it adds
  record GoesItem (i : Item) : Type 0 where
    pub asks : (c : Pair w) (seen : Seen) → Goes w (i.asks (left c) seen) (i.asks (right c) seen)
    pub adds : (c : Pair w) → RestEntries (i.adds (left c)) (i.adds (right c))
    pub named : (c : Pair w) → i.named (left c) ≡ i.named (right c)

  made_goes : (n : ℕ) (c : Pair w) (bs : List Bound) → Each (RestName w) bs → Goes w (names_made n (left c) bs) (names_made n (right c) bs)
  made_goes n c [] no_one = nothing_goes
  made_goes n c (b ∷ bs) (one_and s each) = at_made w (s.gives c) (made_goes n c bs each)

  -- both contexts inside an item
  abbrev inside : ℕ → List Tok → Pair w → Pair w
  inside n ts c = record { env = c.env; others = c.others; item = n; held = variables_written ts; kept = c.kept; choice = c.choice; names = c.names }

  let_item_goes : (n : ℕ) (ts : List Tok) (is_rec : Bool) (bs : List Binding) → Each (GoesBinding w) bs → GoesItem (let_item n ts is_rec bs)
  let_item_goes n ts is_rec bs each = record {
    asks = λ c seen. behind (bindings_go (inside n ts c) is_rec bs each) (made_goes n (inside n ts c) (names_of_group bs) (group_names bs each));
    adds = λ c.
        names_added (generalised_in c.env (held_by (left (inside n ts c)) bs)) (generalised_in c.others (held_by (right (inside n ts c)) bs)) (inside n ts c) (names_of_group bs) (group_names bs each)
        (general_left w c.names (group_held (inside n ts c) bs each)) no_entries;
    named = λ c. refl;
  }

  no_item_goes : (n : ℕ) → GoesItem (no_item n)
  no_item_goes n = record { asks = λ c seen. nothing_goes; adds = λ c. no_entries; named = λ c. refl }

  -- an exception without an argument reads no type, and its name stands for the same
  none_read : (c : Pair w) (o : Option TypeExpression) → o ≡ None → Goes w (read_optional (record (left c) { variables = parameters [] }) o) (read_optional (record (right c) { variables = parameters [] }) o)
  none_read c None e = nothing_goes
  none_read c (Some t) e = absurd (cc)

  abbrev added_by : Context → Option Tok → Option TypeExpression → Environment
  added_by c name argument = elim name [ None ↦ [] | Some t ↦ entry t.name (in_text (place_of t)) (an_exception (option_map (λ a. type_at c a.node) argument)) ∷ [] ]

  exception_added : (c : Pair w) (name : Option Tok) (o : Option TypeExpression) → o ≡ None → RestEntries (added_by (left c) name o) (added_by (right c) name o)
  exception_added c None o e = no_entries
  exception_added c (Some t) None e = an_exception_too no_entries
  exception_added c (Some t) (Some a) e = absurd (cc)

  exception_goes : (n : ℕ) (k : Option ConstructorPart) → TakesNone k → GoesItem (exception_item n k)
  exception_goes n None bare = no_item_goes n
  exception_goes n (Some k) bare = record { asks = λ c seen. at_treated (none_read c k.argument bare); adds = λ c. exception_added c k.name k.argument bare; named = λ c. refl }

  row_goes : (r : Row) (n : ℕ) (q : Place) (ts : List Tok) (cs : List Child) → is_value_row r ≡ true → IsBareRow r cs → Each (GoesChild w) cs → IfThere GoesItem (item_row r n q ts cs)
  unfolding item_row
  row_goes let_row n q ts cs e bare h = there (let_item_goes n ts (is_some (token_in 1 cs)) (bindings_in 2 cs) (bindings_goes w 2 cs h))
  row_goes exception_row n q ts cs e bare h = there (exception_goes n (constructor_among cs) bare)
  row_goes break_row n q ts cs e bare h = there (no_item_goes n)
  row_goes _ n q ts cs e bare h = absurd (no_yes e)

  item_told : (n : ℕ) (i : Option Item) → IfThere GoesItem i → IfThere GoesItem (recorded_item n i)
  item_told n None absent = absent
  item_told n (Some i) (there s) = there (record { asks = λ c seen. at_treated (s.asks c seen); adds = s.adds; named = s.named })

  one_more : (i : ℕ) (ts : List Tree) (o : Option Item) → IfThere GoesItem o → Each GoesItem (items_from (i + 1) ts) → Each GoesItem (elim o [ None ↦ items_from (i + 1) ts | Some y ↦ y ∷ items_from (i + 1) ts ])
  one_more i ts None absent h = h
  one_more i ts (Some y) (there s) h = one_and s h

  items_go : (i : ℕ) (ts : List Tree) → has_values_alone ts ≡ true → are_bare ts ≡ true → Each GoesItem (items_from i ts)
  items_go i [] e bare = no_one
  items_go i (node r x ps ∷ ts) e bare =
      let (first, others) = and_cases (is_value_row r) (has_values_alone ts) e in
      let (first_bare, others_bare) = and_cases (is_bare_item (node r x ps)) (are_bare ts) bare in
      one_more i ts (tree_child (item_base i) 0 (node r x ps)).item
      (item_told (item_base i) (item_row r (item_base i) x.span (part_yield (inner (node r x ps))) (children_of (item_base i + 1) r ps))
      (row_goes r (item_base i) x.span (part_yield (inner (node r x ps))) (children_of (item_base i + 1) r ps) first (item_bare (item_base i + 1) r x ps first_bare) (children_go (item_base i + 1) r ps)))
      (items_go (i + 1) ts others others_bare)

  -- both contexts behind an item
  abbrev behind_item : (c : Pair w) (i : Item) → GoesItem i → Pair w
  behind_item c i s = record { env = i.adds (left c) ++ c.env; others = i.adds (right c) ++ c.others; item = c.item; held = c.held; kept = c.kept; choice = c.choice; names = in_front (s.adds c) c.names }

  asked_goes : (c : Pair w) (seen : Seen) (xs : List Item) → Each GoesItem xs → Goes w (items_ask (left c) seen xs) (items_ask (right c) seen xs)
  asked_goes c seen [] no_one = nothing_goes
  asked_goes c seen (i ∷ xs) (one_and s each) =
      behind (s.asks c seen) (along (λ names. items_ask (left (behind_item c i s)) (seen_too seen names) xs) (λ names. items_ask (right (behind_item c i s)) (seen_too seen names) xs) (s.named c)
      (asked_goes (behind_item c i s) (seen_too seen (i.named (left c))) xs each))

  -- What a text asks holds of what is left of types where it holds of them, from names that are made of these constructors alone.
  pub text_goes : (env : Environment) (text : List Tree) → has_values_alone text ≡ true → are_bare text ≡ true → names_made_of w.all env ≡ true → (kept : Site → Bool) (ch : Choice) → Goes w (conditions_of env text kept ch) (conditions_of env text kept (chosen_rest w ch))
  text_goes env text values bare made kept ch =
      asked_goes (record { env = env; others = env; item = 0; held = []; kept = kept; choice = ch; names = as_made made }) no_names (items_of text) (items_go 1 text values bare)
