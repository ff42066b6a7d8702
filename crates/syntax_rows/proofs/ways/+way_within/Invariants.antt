use Rattle.syntax_rows.proofs.ways.+way_within.Given as goal

abbrev pub decreases-way_within : goal.decreases-way_within
decreases-way_within l = l.fuel
