-- A p: a constructor with its argument, from what its use and the argument carry.
use Rattle.std.proofs.Common.{◌≡◌, ◌∙◌, ◌++◌, ◌==◌, ℕ, Bool, true, false, List, [], ◌∷◌, Option, Some, None, refl, sym, ap, subst, append_assoc, append-nil, if◌then◌else◌}
use Rattle.std.specs.Prelude.{All, option_map}
use Rattle.std.proofs.lemmas.List.Elements.{All-head}
use Rattle.token_model.specs.Kinds.{Tok}
use Rattle.tree_model.specs.Rows.{papp_row}
use Rattle.tree_model.specs.Slots.{is_operand}
use Rattle.tree_model.specs.Trees.{Place, Tree}
use Rattle.type_model.specs.Types.{Typ}
use Rattle.signature_model.specs.Declarations.{Name}
use Rattle.signature_model.specs.Entries.{constructor_kind}
use Rattle.row_parts.specs.Numbered.{Numbered, operands_in, filled_in}
use Rattle.typing_model.specs.Demands.{Condition, site, same, equal, test, arity, constructor_word}
use Rattle.typing_model.specs.Contexts.{Context, is_kept, ask, type_at, tell_typed}
use Rattle.typing_model.specs.Names.{Built, ask_bound, used_at}
use Rattle.typing_model.specs.Parts.{Written, Pattern, place_of}
use Rattle.typing_model.specs.Patterns.{papp, built_by, taken_by, with_built, argument_has, argument_type, applied_constructor, of_one_type}
use Rattle.type_terms.specs.declared.types.NodeRef.{NodeRef}
use Rattle.env_table.specs.declared.entries.Entry.{Entry}
use Rattle.env_table.specs.declared.seen.Seen.{Seen}
use Rattle.typing_state.specs.declared.parts.Parts.{Parts}
use Rattle.typing_state.specs.Goes.{Goes, OnlyIndex}
use Rattle.typing_state.specs.Notes.{Noted, NotedNameless}
use Rattle.typing_state.proofs.Going.{goes_refl}
use Rattle.typing_conditions.specs.Sights.{own, letter, number_in, Letters}
use Rattle.typing_conditions.specs.Frames.{Frame}
use Rattle.typing_conditions.specs.Meanings.{Means}
use Rattle.typing_conditions.specs.Steps.{Records}
use Rattle.typing_conditions.specs.Carrying.{Scope, Stays, Carried, CarriedTo}
use Rattle.typing_conditions.specs.Hiding.{AreDone, Owns, IsAmong}
use Rattle.typing_conditions.specs.Surroundings.{Surrounds}
use Rattle.typing_conditions.proofs.Judged.{given_left, given_right, nodes_left, nodes_right}
use Rattle.typing_conditions.proofs.Carried.{carried_as, carried_trans, as_hides, done_then, done_last, done_as}
use Rattle.typing_conditions.proofs.Hiding.{done_both, owns_after, owns_before, owns_node, owns_row}
use Rattle.typing_conditions.proofs.Keeping.{all_among, among_after, among_before}
use Rattle.typing_conditions.proofs.Meaning.{means_on}
use Rattle.typing_conditions.proofs.Nodes.{same_made}
use Rattle.typing_conditions.proofs.Recording.{ends_own, records_stay}
use Rattle.typing_conditions.proofs.Branching.{carried_after, after_hides}
use Rattle.typing_conditions.proofs.Stays.{stays_trans, stays_closed, stays_opened}
use Rattle.typing_conditions.proofs.Surrounding.{surrounds_on, surrounds_sees, sees_on}
use Rattle.typing_steps.specs.States.{is_aloud, sight}
use Rattle.typing_steps.specs.Typing.{as_declared, TypesAny, AsksEqualIf}
use Rattle.typing_steps.specs.Building.{used_by, building_in, construction_asks, TakesAs, TypesConstructor}
use Rattle.typing_steps.proofs.Rows.{row_any}
use Rattle.typing_steps.proofs.Recording.{type_noted}
use Rattle.operand_laws.specs.Formed.{is_needed, may_repeat}
use Rattle.operand_laws.specs.Operands.{number_of, pattern_of}
use Rattle.operand_laws.proofs.SlotBySlot.{exactly_one}
use Rattle.operand_laws.proofs.Standing.{pattern_of_stands}
use Rattle.typing_rows.specs.CarriedRows.{sort_in}
use Rattle.typing_rows.proofs.Own.{same_itself, own_recorded, own_sure}
use Rattle.pattern_rows.specs.Applied.{PatternAsked, MatchesAsIf, MatchesWanted, with_constructor, MatchesApplied, AppliesConstructor}
use Rattle.pattern_rows.specs.Bounds.{Bind, Adds}
use Rattle.pattern_rows.specs.CarriedPatterns.{IsCarriedPattern, MatchesNodeOf}
use Rattle.pattern_rows.specs.Contracts.{MatchesTo, Matches, MatchesRow, MatchesAll}
use Rattle.pattern_rows.proofs.Going.{slot_patterns}
use Rattle.pattern_rows.proofs.Matching.{row_matches, adds_as}
use Rattle.pattern_rows.proofs.Naming.{all_bound_on}
use Rattle.pattern_rows.proofs.Opened.{grouped_to_hides, recorded_done, done_recorded, carried_copied, copied_done, copied_more}
use Rattle.pattern_rows.proofs.Ordered.{patterns_none, patterns_more, patterns_all}
use Rattle.pattern_rows.proofs.Terms.{applied_term}
use Rattle.pattern_rows.proofs.Typed.{over_row}

-- a pattern that has the type that may be wanted
pub matches_as_if : (a b d : Parts) (env : List Entry) (p : Pattern) (at : Place) (seen : List Name) (added : List Bind) (found : ℕ) (wanted : Option NodeRef) → p.at ≡ at → (typed : MatchesTo a b env p seen added found) → Goes a b → AsksEqualIf b d env at found wanted →
    MatchesAsIf a d env p seen added typed.opens (option_map (λ (w : NodeRef). w.0) wanted)
matches_as_if a b d env p at seen added found None place typed goes asked = λ aloud F scope G s.
    subst (λ q. PatternAsked env F scope (sight a) G (sight q) p seen (λ c. []) added typed.opens) (sym asked)
    (let x = typed.typed aloud F scope G s in record { carried = carried_as (λ c. sym (append-nil (p.matched c seen))) x.typed.carried; done = done_as _ x.typed.carried x.done; names = λ H r. (typed.typed aloud F scope H r).names })
matches_as_if a b d env p at seen added found (Some wanted) place typed goes asked = λ aloud F scope G n k t its s has.
    let loud : is_aloud b.telling ≡ true = ap is_aloud goes.telling ∙ aloud in
    let x = typed.typed aloud F scope G s in
    let y = means_on x.typed.carried.stays has in
    let z = asked loud F scope (typed.opens ++ G) (site n k) (λ ch. ch.type_at p.node) t its (sees_on scope x.typed.carried.stays s.reached (surrounds_sees s)) x.typed.means y in
    let w = subst (λ l. Carried F scope (λ c. ask n k l (equal (type_at c p.node) (t c.chosen))) (sight b) (typed.opens ++ G) (sight d) (typed.opens ++ G)) (sym place) z in
    record {
      carried = carried_trans x.typed.carried w;
      done = done_then x.typed.carried w x.done;
      names = λ H r.
          let q = typed.typed aloud F scope H r in
          let K = typed.opens ++ H in
          let opened : Stays F (sight b) K (sight b) ((letter n k, wanted.0) ∷ K) = stays_opened (letter n k) y.open_node.inside in
          let e = asked loud F scope ((letter n k, wanted.0) ∷ K) (site n k) (λ ch. ch.type_at p.node) (λ ch. ch.letter n k) its (sees_on scope (stays_trans q.typed.carried.stays opened) r.reached (surrounds_sees r)) (means_on opened q.typed.means) (record { open_node = y.open_node; is = λ V ch loose g. g.given.0.is }) in
          all_bound_on (stays_closed ((letter n k, wanted.0) ∷ []) (stays_trans opened e.stays)) q.names;
    }

-- the same with the names that are added
pub wanted_matches : (a b d : Parts) (env : List Entry) (o : Numbered) (names more : List Bind) (seen now : List Name) (found : ℕ) (wanted : Option NodeRef) → Matches a b env (pattern_of a.item o) names more seen now found → Goes a b → AsksEqualIf b d env o.at found wanted →
    MatchesWanted a d env (pattern_of a.item o) names more seen now (option_map (λ (w : NodeRef). w.0) wanted)
wanted_matches a b d env o names more seen now found wanted matched goes asked = record {
  added = matched.added;
  adds = matched.adds;
  opens = matched.typed.opens;
  typed = matches_as_if a b d env (pattern_of a.item o) o.at seen matched.added found wanted (pattern_of_stands a.item o).where_it_is matched.typed goes asked;
}

-- what is asked after the demands of a constructor, by what is found: the argument, with the declared type, and the result, which both nodes have
abbrev behind_built : Context → (n head : ℕ) → Pattern → List Name → Option Built → List Condition
behind_built c n head p seen None = p.matched c seen ++ of_one_type c head (n ∷ head ∷ [])
behind_built c n head p seen (Some b) =
    (p.matched c seen ++ argument_has n 2 p.at (type_at c p.node) (option_map (used_at c head) b.argument)) ++ same (type_at c n) (used_at c head b.result) ∷ same (type_at c head) (used_at c head b.result) ∷ []

-- a constructor with its argument asks its demands and then this
constructor_splits : (c : Context) (n head : ℕ) (p : Pattern) (seen : List Name) (qs : List Tok) (last : Option Tok) → let w : Written = record { qualifiers = qs; last = last } in
    tell_typed head c ++ (construction_asks c n w 1 ++ behind_built c n head p seen (if is_kept c n 0 then building_in c.env w else None)) ≡ applied_constructor c n w head (n ∷ head ∷ []) (p.matched c seen) (argument_has n 2 p.at (type_at c p.node))
constructor_splits c n head p seen qs None = by (is_kept c n 0)
  where
    by : (k : Bool) → tell_typed head c ++ behind_built c n head p seen (if k then None else None) ≡ tell_typed head c ++ (p.matched c seen ++ of_one_type c head (n ∷ head ∷ []))
    by true = refl
    by false = refl
constructor_splits c n head p seen qs (Some t) = by (built_by c n (record { qualifiers = qs; last = Some t }) t)
  where
    by : (o : Option Built) → let w : Written = record { qualifiers = qs; last = Some t } in
        tell_typed head c ++ ((ask_bound c n 0 constructor_kind constructor_word w t ++ elim o [ None ↦ [] | Some b ↦ ask n 1 (place_of t) (test (arity t.name (taken_by b) 1) (taken_by b == 1)) ]) ++ behind_built c n head p seen o) ≡
        tell_typed head c ++ (ask_bound c n 0 constructor_kind constructor_word w t ++
        elim o [ None ↦ p.matched c seen ++ of_one_type c head (n ∷ head ∷ []) | Some b ↦ with_built c n head t 1 b (n ∷ head ∷ []) (p.matched c seen ++ argument_has n 2 p.at (type_at c p.node) (argument_type c head (Some b))) ])
    by None = refl
    by (Some b) = refl

-- the argument of a constructor that is known has the declared type
argument_known : (b d : Parts) (env : List Entry) (p : Pattern) (seen : List Name) (added : List Bind) (opens : Letters) (n head : ℕ) (takes : Option Typ) (argument : Option ℕ) {F : Frame} {scope : Scope} {H : Letters} → is_aloud b.telling ≡ true → scope.own n ≡ true →
    Surrounds as_declared F (sight b) H env scope → TakesAs F (sight b) H head takes argument → MatchesAsIf b d env p seen added opens argument →
    PatternAsked env F scope (sight b) H (sight d) p seen (λ c. argument_has n 2 p.at (type_at c p.node) (option_map (λ t. used_by head t c.chosen) takes)) added opens
argument_known b d env p seen added opens n head None None {F} {scope} {H} aloud its names has argued = argued aloud F scope H names
argument_known b d env p seen added opens n head (Some t) (Some m) {F} {scope} {H} aloud its names has argued = argued aloud F scope H n 2 (used_by head t) its names has
argument_known b d env p seen added opens n head None (Some m) aloud its names has argued = absurd has
argument_known b d env p seen added opens n head (Some t) None aloud its names has argued = absurd has

-- A constructor with its argument, as a row: its use, the argument, and the record of its node. The letters of its type are those of its own node, and are open until the row's is recorded.
pub constructor_typed : (a b d f : Parts) (env : List Entry) (n head number : ℕ) (at : Place) (qs : List Tok) (last : Option Tok) (known : Bool) (p : Pattern) (seen : List Name) (added : List Bind) (opens : Letters) (m : ℕ) (argument : Option ℕ) →
    TypesConstructor a b env (record { qualifiers = qs; last = last }) 1 known m argument → Goes a b → MatchesAsIf b d env p seen added opens argument → Goes b d → number_in d.item number ≡ head → (is_aloud d.telling ≡ true → Records (sight d) (sight f) number m env) →
    MatchesRow a f env (with_constructor n at (record { qualifiers = qs; last = last }) head p) seen added n m
constructor_typed a b d f env n head number at qs last true p seen added opens m argument typed goes argued goes' place records = record {
  opens = opens;
  typed = λ aloud F scope G its names.
      let w : Written = record { qualifiers = qs; last = last } in
      let asks = λ (c : Context). applied_constructor c n w head (n ∷ head ∷ []) (p.matched c seen) (argument_has n 2 p.at (type_at c p.node)) in
      let k = typed aloud F scope G n head names in
      let loud : is_aloud b.telling ≡ true = ap is_aloud goes.telling ∙ aloud in
      let x = argument_known b d env p seen added opens n head k.building.argument argument loud its (surrounds_on k.carried.stays names) k.takes argued in
      let y = means_on x.carried.stays k.builds in
      let first = same_made {scope = scope} (own n) (λ t. tt) y in
      let ends = carried_trans first (same_made (own head) (λ t. tt) (means_on first.stays y)) in
      let z = carried_trans x.carried ends in
      let behind = carried_after k.carried (λ V c loose under agrees named kept. ap (behind_built c n head p seen) (ap (λ v. if v then building_in c.env w else None) (k.kept c kept) ∙ k.finds V c loose under agrees named)) z in
      let own_letters : Letters = (own head, m) ∷ (own n, m) ∷ (opens ++ (k.letters ++ G)) in
      let of_head : Means F (sight d) own_letters (λ ch. ch.type_at head) m = record { open_node = y.open_node; is = λ V ch loose g. g.given.0.is } in
      let of_row : Means F (sight d) own_letters (λ ch. ch.type_at n) m = record { open_node = y.open_node; is = λ V ch loose g. g.given.1.0.is } in
      let noted = records (ap is_aloud goes'.telling ∙ loud) in
      let open_rows : AreDone (sight d) behind.hidden opens = subst (λ xs. AreDone (sight d) xs opens) (sym (after_hides k.carried _ z)) (done_last k.carried z (done_then x.carried ends x.done)) in
      let here = own_recorded head place behind of_head noted (surrounds_sees names) in
      let among : IsAmong k.letters own_letters = record {
        given = λ V ch h. given_left V ch k.letters G (given_right V ch opens (k.letters ++ G) h.1.1);
        inside = λ nodes h. nodes_left k.letters G nodes (nodes_right opens (k.letters ++ G) nodes h.1.1);
      } in
      let sure = own_sure k.letters head place behind of_head noted (surrounds_sees names) (owns_row k.of_row) in
      let copied = carried_copied k.letters among here sure in
      let last_as = λ (c : Context). constructor_splits c n head p seen qs last in
      let whole : CarriedTo F scope asks (sight a) G (sight f) own_letters (λ ch. ch.type_at n) m = record { carried = carried_as last_as copied; means = means_on (records_stay noted y.open_node.inside) of_row } in
      let same : own_letters ≡ ((own head, m) ∷ (own n, m) ∷ (opens ++ k.letters)) ++ G = ap (λ H. (own head, m) ∷ (own n, m) ∷ H) (sym (append_assoc opens k.letters G)) in
      let typed_so = subst (λ H. CarriedTo F scope asks (sight a) G (sight f) H (λ ch. ch.type_at n) m) same whole in
      let hides : typed_so.carried.hidden ≡ copied.hidden = grouped_to_hides same whole ∙ as_hides last_as copied in
      let opens_there : AreDone (sight f) copied.hidden opens = copied_more k.letters among here sure (done_recorded head place behind of_head noted (surrounds_sees names) open_rows) in
      let letters_there : AreDone (sight f) copied.hidden k.letters = copied_done k.letters among here sure k.of_row.sure in
      record {
        row = record {
          own = (own head, m) ∷ (own n, m) ∷ (opens ++ k.letters);
          type = λ ch. ch.type_at n;
          first = asks;
          ends = λ c. [];
          all = λ c. append-nil (asks c);
          typed = typed_so;
          owns = λ known. subst (λ xs. Owns n m (sight f) xs ((own head, m) ∷ (own n, m) ∷ (opens ++ k.letters))) (sym hides)
              (owns_after (recorded_done place noted) (owns_before (owns_node (own n) refl refl) (done_both opens_there letters_there)));
          end = ends_own n;
        };
        among = among_after ((own head, m) ∷ (own n, m) ∷ []) (among_before k.letters (all_among opens));
        done = subst (λ xs. AreDone (sight f) xs opens) (sym hides) opens_there;
        names = λ o st h always. all_bound_on (stays_trans (records_stay noted y.open_node.inside) st) (x.names G (surrounds_on (stays_closed k.letters k.carried.stays) names));
      };
}
constructor_typed a b d f env n head number at qs last false p seen added opens m argument typed goes argued goes' place records = record {
  opens = opens;
  typed = λ aloud F scope G its names.
      let w : Written = record { qualifiers = qs; last = last } in
      let asks = λ (c : Context). applied_constructor c n w head (n ∷ head ∷ []) (p.matched c seen) (argument_has n 2 p.at (type_at c p.node)) in
      let k = typed.1 aloud F scope G n (own head) (λ t. tt) names in
      let loud : is_aloud b.telling ≡ true = ap is_aloud goes.telling ∙ aloud in
      let x = (subst (MatchesAsIf b d env p seen added opens) typed.0 argued) loud F scope ((own head, m) ∷ G) (surrounds_on k.typed.carried.stays names) in
      let y : Means F (sight d) (opens ++ ((own head, m) ∷ G)) (λ ch. ch.type_at head) m = means_on x.carried.stays k.typed.means in
      let first = same_made {scope = scope} (own n) (λ t. tt) y in
      let alone = carried_as (λ c. append-nil (p.matched c seen)) x.carried in
      let ends = carried_trans first (same_itself (λ ch. ch.type_at head)) in
      let z = carried_trans alone ends in
      let behind = carried_after k.typed.carried (λ V c loose under agrees named kept. ap (behind_built c n head p seen) (k.none V c loose under agrees named kept)) z in
      let own_letters : Letters = (own n, m) ∷ (opens ++ ((own head, m) ∷ G)) in
      let of_row : Means F (sight d) own_letters (λ ch. ch.type_at n) m = record { open_node = y.open_node; is = λ V ch loose g. g.given.0.is } in
      let noted = records (ap is_aloud goes'.telling ∙ loud) in
      let open_rows : AreDone (sight d) behind.hidden opens =
      subst (λ xs. AreDone (sight d) xs opens) (sym (after_hides k.typed.carried _ z)) (done_last k.typed.carried z (done_then alone ends (done_as (λ c. append-nil (p.matched c seen)) x.carried x.done))) in
      let has_head = means_on first.stays y in
      let here = own_recorded head place behind has_head noted (surrounds_sees names) in
      let last_as = λ (c : Context). constructor_splits c n head p seen qs last in
      let whole : CarriedTo F scope asks (sight a) G (sight f) own_letters (λ ch. ch.type_at n) m = record { carried = carried_as last_as here; means = means_on (records_stay noted y.open_node.inside) of_row } in
      let same : own_letters ≡ ((own n, m) ∷ (opens ++ (own head, m) ∷ [])) ++ G = ap (λ H. (own n, m) ∷ H) (sym (append_assoc opens ((own head, m) ∷ []) G)) in
      let typed_so = subst (λ H. CarriedTo F scope asks (sight a) G (sight f) H (λ ch. ch.type_at n) m) same whole in
      let hides : typed_so.carried.hidden ≡ here.hidden = grouped_to_hides same whole ∙ as_hides last_as here in
      let opens_there : AreDone (sight f) here.hidden opens = done_recorded head place behind has_head noted (surrounds_sees names) open_rows in
      record {
        row = record {
          own = (own n, m) ∷ (opens ++ (own head, m) ∷ []);
          type = λ ch. ch.type_at n;
          first = asks;
          ends = λ c. [];
          all = λ c. append-nil (asks c);
          typed = typed_so;
          owns = λ known. subst (λ xs. Owns n m (sight f) xs ((own n, m) ∷ (opens ++ (own head, m) ∷ []))) (sym hides) (owns_before (owns_node (own n) refl refl) (done_both opens_there (recorded_done place noted)));
          end = ends_own n;
        };
        among = among_after ((own n, m) ∷ []) (among_before ((own head, m) ∷ []) (all_among opens));
        done = subst (λ xs. AreDone (sight f) xs opens) (sym hides) opens_there;
        names = λ o st h always. all_bound_on (stays_trans (records_stay noted y.open_node.inside) st) (x.names G (surrounds_on (stays_closed ((own head, m) ∷ []) k.typed.carried.stays) names));
      };
}

-- A p by what its head is
applied_by : (n : ℕ) (at : Place) (h p : Pattern) (o : Option Written) → h.constructor ≡ o → papp n at h p ≡ papp n at (record h { constructor = o }) p
applied_by n at h p o e = ap (λ q. papp n at (record h { constructor = q }) p) e

-- a constructor with its argument, which is recorded, before the row is
pub constructor_applied : (a b d f : Parts) (env : List Entry) (number : ℕ) (w : Written) (q : Pattern) (known : Bool) (ty : NodeRef) (argument : Option ℕ) (recorded : Seen) (names more : List Bind) (seen now : List Name) → recorded.ty ≡ Some ty → recorded.env ≡ env → TypesConstructor a b env w 1 known ty.0 argument →
    Goes a b → MatchesWanted b d env q names more seen now argument → Goes b d → Noted d.telling d f number recorded → OnlyIndex d f → AppliesConstructor a f env (number_of a.item number) w q names more seen now ty.0
constructor_applied a b d f env number w q known ty argument recorded names more seen now has_type in_scope built goes argued goes' noted rest = λ h node is. record {
  added = argued.added;
  adds = argued.adds;
  typed = λ n at.
      subst (λ r. MatchesRow a f env r seen argued.added n ty.0) (sym (applied_by n at h q (Some w) is))
      (constructor_typed a b d f env n h.node number at w.qualifiers w.last known q seen argued.added argued.opens ty.0 argument built goes argued.typed goes' (ap (λ i. number_in i number) (goes'.item ∙ goes.item) ∙ sym node) (λ loud. subst (Records (sight d) (sight f) number ty.0) in_scope (type_noted d f number ty recorded has_type loud noted rest)));
}

-- one pattern alone
one_matched : (a b : Parts) (env : List Entry) (p : Pattern) (seen : List Name) (added : List Bind) (found : ℕ) → MatchesTo a b env p seen added found → MatchesAll a b env (p ∷ []) seen added (found ∷ [])
one_matched a b env p seen added found typed =
    patterns_all a b env (p ∷ []) [] seen (seen ++ p.mentions) added (found ∷ []) refl
    (patterns_more a a b env (p ∷ []) (p ∷ []) [] p seen seen (seen ++ p.mentions) [] added [] (found ∷ []) found refl refl refl (goes_refl a) (patterns_none a env (p ∷ []) seen [] refl) typed)

-- what follows a head that is no constructor is matched alone, and the row has any type
pub nothing_applied : (a b d : Parts) (env : List Entry) (h q : Pattern) (found m : ℕ) (names more : List Bind) (seen now : List Name) → h.constructor ≡ None → Matches a b env q names more seen now found → Goes a b → TypesAny b d m → MatchesApplied a d env h q names more seen now m
nothing_applied a b d env h q found m names more seen now none matched goes any = record {
  added = matched.added;
  adds = matched.adds;
  typed = λ n at.
      subst (λ r. MatchesRow a d env r seen matched.added n m) (sym (applied_by n at h q None none))
      (over_row a b d env n at (q ∷ []) seen matched.added (found ∷ []) m (λ c k. []) (one_matched a b env q seen matched.added found matched.typed) goes (λ aloud F scope G k its s all. row_any b d {env = env} k any aloud F scope G its s));
}

-- the names in A p are those in its argument
applied_mentions : (n : ℕ) (at : Place) (h p : Pattern) → (papp n at h p).mentions ≡ p.mentions
applied_mentions n at h p = by h.constructor
  where
    by : (o : Option Written) → (papp n at (record h { constructor = o }) p).mentions ≡ p.mentions
    by None = append-nil p.mentions
    by (Some w) = refl

-- A p
pub applied_matches : (a d e : Parts) (env : List Entry) (number : ℕ) (t : Tree) (h o : Numbered) (ty : NodeRef) (names more : List Bind) (seen now : List Name) → h ≡ filled_in number t 0 → o ≡ filled_in number t 1 →
    (IsCarriedPattern o → MatchesApplied a d env (pattern_of a.item h) (pattern_of a.item o) names more seen now ty.0) → Goes a d → NotedNameless d e number env (Some ty) → OnlyIndex d e → MatchesNodeOf papp_row a e env number t names more seen now ty.0
unfolding is_operand is_needed may_repeat
applied_matches a d e env number t h o ty names more seen now first second matched goes noted rest row place carried =
    let n = number_of a.item number in
    let x = filled_in number t 0 in
    let y = filled_in number t 1 in
    let alone : operands_in number t 1 ≡ y ∷ [] = exactly_one number t 1 carried.formed (ap (λ q. is_operand q 1) row) (ap (λ q. is_needed q 1) row) (ap (λ q. may_repeat q 1) row) in
    let there : IsCarriedPattern y = All-head IsCarriedPattern y [] (subst (All IsCarriedPattern) alone (slot_patterns number place t 1 (ap (λ r. sort_in r 1) row) carried)) in
    let all : MatchesApplied a d env (pattern_of a.item x) (pattern_of a.item y) names more seen now ty.0 =
    subst (λ u. MatchesApplied a d env (pattern_of a.item u) (pattern_of a.item y) names more seen now ty.0) first (subst (λ u. MatchesApplied a d env (pattern_of a.item h) (pattern_of a.item u) names more seen now ty.0) second (matched (subst IsCarriedPattern (sym second) there))) in
    let term = applied_term a.item number place t carried.formed row in
    row_matches a d e env number place t ty names more all.added seen now (subst (λ r. MatchesRow a d env r seen all.added n ty.0) (sym term) (all.typed n place))
    (adds_as _ _ term (subst (Adds names more all.added seen now) (sym (applied_mentions n place (pattern_of a.item x) (pattern_of a.item y))) all.adds)) goes noted rest
