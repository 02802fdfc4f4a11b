use Rattle.warg_witness.proofs.ranges.+climb_ranges.Given as goal

abbrev pub decreases-climb_ranges : goal.decreases-climb_ranges
decreases-climb_ranges g l = l.range.now.count
