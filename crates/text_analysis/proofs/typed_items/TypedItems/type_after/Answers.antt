use Rattle.std.proofs.Common.{◌≡◌, ◌∙◌, ◌+◌, [], drop, refl, sym, ap, subst, arith}
use Rattle.tree_model.specs.Trees.{inner}
use Rattle.syntax_tree.specs.View.{node_view}
use Rattle.row_parts.specs.Numbered.{node_with, operand_view}
use Rattle.typing_state.specs.declared.parts.Parts.{Parts}
use Rattle.binding_rows.specs.ItemRows.{IsCarriedItemOperand}
use Rattle.module_typing.specs.Items.{GivesItem, NamesNone}
use Rattle.type_nodes.specs.Views.{numbers}
use Rattle.sig_template.specs.Structures.{entries_of}
use Rattle.module_typing.specs.Items.{AddsValues}
use Rattle.weak_variables.specs.Free.{AreAllValues, IsRoot}
use Rattle.weak_variables.specs.Listed.{AreListedIn, Finds}
use Rattle.weak_variables.specs.Search.{is_listed, lists_of}
use Rattle.weak_variables.proofs.Listing.{listed_more}
use Rattle.text_analysis.specs.Items.{views_of}
use Rattle.text_analysis.specs.Given.{IsAs}
use Rattle.text_analysis.proofs.FreeLaws.{free_as, lists_last}
use Rattle.text_analysis.proofs.ItemFree.{item_free}
use Rattle.text_analysis.specs.Points.{EndsAt}
use Rattle.text_analysis.proofs.PointLaws.{ends_more}
use Rattle.text_analysis.proofs.TypedLaws.{length_views, views_more, at_kept}
use Rattle.text_analysis.proofs.typed_items.TypedItems.type_after.Goals as goal

pub returns-clause-ends : goal.returns-clause-ends
returns-clause-ends c = λ next are first env both.
    let ends = both.0 in
    let old = c.args.self.now in
    let tree = node_view c.args.item.now.value in
    let begun : Parts = record old.parts { item = c.args.number; written = record { variables = c.clear.new.self } } in
    let operand : operand_view c.of.result ≡ node_with 0 tree = c.of.ensures ∙ ap (λ nd. node_with 0 (node_view nd)) c.deref.ensures in
    let gives = subst (GivesItem begun c.type_item.new.at old.scene c.type_item.new.scene) operand c.in_ok-type_item.ensures.carries in
    let alike : IsAs old.parts begun = record { nodes = refl; index = λ i p. refl; faults = refl; constants = refl } in
    let more = sym (views_more old.items.items c.push-2.new.list.items c.in_ok-shared.field-0 c.args.item.now.value c.in_ok-push-2.ensures.pushed c.in_ok-shared.ensures) in
    let nss = lists_of old.free.items in
    let own = c.in_ok-own.own in
    let found = lists_last old.free.items c.push.new.list.items own c.in_ok-push.ensures.pushed in
    let entries : c.deref-2.result.now ≡ c.type_item.new.scene.components.items = c.deref-2.ensures.value in (
      subst (λ ts. EndsAt first env ts c.type_item.new.at c.type_item.new.scene c.stays_plain-self.result) more
          (ends_more {b = begun} (views_of old.items.items) tree ends alike refl refl (next ∙ ap (λ n. n + 1) (sym (length_views old.items.items))) gives c.type_item.ensures.goes
          (λ none. c.type_item.ensures.names (subst (λ o. NamesNone o.part) (sym operand) none))
          (λ e. let h = c.stays_plain-self.ensures.none e in (h.0, subst (λ nd. NamesNone (inner (node_view nd))) c.deref-3.ensures h.1))
          (λ carried plain. c.stays_plain-self.ensures.carried (subst (λ nd. IsCarriedItemOperand (node_with 0 (node_view nd))) (sym c.deref-3.ensures) carried) plain)),
      free_as more refl refl (sym found)
          (item_free {b = begun} (views_of old.items.items) tree nss (numbers own.items) c.len-components.result (is_listed c.args.search.now) (is_listed c.find_free.new.search) ends.given both.1 alike refl refl gives c.type_item.ensures.goes
          (λ keeps. at_kept c.type_item.result c.in_ok-type_item.was (c.type_item.ensures.grows (subst (λ o. AddsValues o.part) (sym operand) keeps)))
          (let e = c.len-components.ensures in let all = old.scene.components.ok in omega arith) are
          (subst (λ es. AreAllValues (entries_of (drop c.len-components.result es)) → Finds c.type_item.new.at.store.nodes (IsRoot (entries_of (drop c.len-components.result es))) (is_listed c.args.search.now) (is_listed c.find_free.new.search) [] (numbers own.items)) entries c.in_ok-own.ensures.finds)),
    )

pub returns-clause-listed : goal.returns-clause-listed
returns-clause-listed c = λ are. subst (AreListedIn (is_listed c.find_free.new.search)) (sym (lists_last c.args.self.now.free.items c.push.new.list.items c.in_ok-own.own c.in_ok-push.ensures.pushed)) (listed_more (is_listed c.args.search.now) (is_listed c.find_free.new.search) (lists_of c.args.self.now.free.items) (numbers c.in_ok-own.own.items) are c.in_ok-own.ensures.lists)
