use Rattle.std.proofs.Common.{◌∙◌, sym, ap}
use Rattle.type_nodes.specs.Views.{numbers}
use Rattle.env_table.specs.declared.entries.Entry.{Entry}
use Rattle.weak_variables.specs.Search.{is_listed}
use Rattle.weak_variables.proofs.Searching.{on_ok, entry_value, lists_then}
use Rattle.weak_variables.proofs.search.Search.+weak.Goals as goal

pub entry-returns-in-Scheme-clause-lists : goal.entry-returns-in-Scheme-clause-lists
entry-returns-in-Scheme-clause-lists t c = on_ok c.look.result (λ h. h.lists) c.look.ensures

pub entry-returns-in-Scheme-clause-value : goal.entry-returns-in-Scheme-clause-value
entry-returns-in-Scheme-clause-value t c = λ m is.
    on_ok c.look.result
    (entry_value c.args.at.now.store.nodes c.args.entry.now.value.what c.in-Scheme.root m _ _ _ _ (sym (ap (λ (e : Entry). e.what) c.deref.ensures) ∙ c.in-Scheme.is) is) c.look.ensures

pub module-returns-in_ok-inside-in-Functor-2 : goal.module-returns-in_ok-inside-in-Functor-2
module-returns-in_ok-inside-in-Functor-2 t c = record {
  lists = on_ok c.module-in-Functor.result
      (λ h. lists_then (is_listed c.args.self.now) (is_listed c.module.new.self) (is_listed c.module-in-Functor.new.self) (numbers c.args.self.now.found.items) (numbers c.module.new.self.found.items) (numbers c.module-in-Functor.new.self.found.items)
      c.in_ok-module-in-Functor.ensures.lists h)
      c.module-in-Functor.ensures.lists;
}
