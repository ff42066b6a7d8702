use Rattle.std.proofs.Common.{◌≡◌, ◌-◌, take, List}
use Rattle.syntax_tree.specs.Tallies.{Grows}
use Rattle.env_table.specs.declared.entries.Entry.{Entry}
use Rattle.typing_state.specs.declared.parts.Parts.{Parts}
use Rattle.analysis_api.specs.Typed.{more_typed}
use Rattle.weak_variables.specs.Listed.{AreListedIn}
use Rattle.weak_variables.specs.Search.{is_listed, lists_of}
use Rattle.text_analysis.specs.Items.{views_of}
use Rattle.text_analysis.specs.Typed.{AreTyped}
use Rattle.text_analysis.proofs.typed_items.TypedItems.go_on.Given as goal

-- the items so far are those of the text, each of them from the place on was counted, they are typed as before, and what is listed was found for them
abbrev pub invariant-loop-k : goal.invariant-loop-k
invariant-loop-k g l =
    (views_of l.self.items.items ≡ take l.k (views_of l.items))
    × ((g.C.Counts.tallies l.counts).typed ≡ more_typed (l.k - l.place) (g.C.Counts.tallies l.fn.counts).typed)
    × ((g.C.Counts.tallies l.counts).lexed ≡ (g.C.Counts.tallies l.fn.counts).lexed)
    × ((g.C.Counts.tallies l.counts).shifted ≡ (g.C.Counts.tallies l.fn.counts).shifted)
    × Grows (g.C.Counts.tallies l.fn.counts) (g.C.Counts.tallies l.counts)
    × ((first : Parts) (env : List Entry) → AreTyped first env l.fn.self → AreTyped first env l.self)
    × AreListedIn (is_listed l.search) (lists_of l.self.free.items)
