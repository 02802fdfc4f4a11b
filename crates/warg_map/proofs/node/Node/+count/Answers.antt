use Rattle.std.proofs.Common.{ℕ, List, ◌∙◌, refl, arith, rules, inl}
use Rattle.std.specs.FinMap.{len, len-empty}
use Rattle.warg_map.specs.Sparse.{bits_cmp}
use Rattle.warg_map.specs.Private.Seen.{seen, tree_height, held_by, counted}
use Rattle.warg_map.specs.declared.node.Node.TheVariants.{Fork, Stem}
use Rattle.warg_map.proofs.TreeForm.{of_content}
use Rattle.warg_map.proofs.NodeCounts.{IsForkCount, IsStemCount, fork_count, stem_count, counted_lone, splits_more}
use Rattle.warg_map.proofs.node.Node.+count.Goals as goal
use Rattle.warg_map.proofs.node.Node.+count.Goals.{After-count-right, After-count}

fork : (g : _) (t : _) (c : After-count-right g t) → IsForkCount (counted (tree_height c.args.self.now)
    (held_by c.args.self.now)) (len (held_by c.args.self.now)) (seen c.node.result.now) (seen c.node-in-Fork.result.now)
fork g t c = fork_count (of_content Fork c.in-Fork.is c.as_ref-fork.ensures)
    c.requires.well_formed (c.node.ensures.seen ∙ c.index.ensures)
    (c.node-in-Fork.ensures.seen ∙ c.index-in-Fork.ensures)

stem : (g : _) (t : _) (c : After-count g t) → IsStemCount (seen c.args.self.now) (seen c.node-in-Stem.result.now)
stem g t c = stem_count (of_content Stem c.in-Stem.is c.deref.ensures) c.requires.well_formed
    c.node-in-Stem.ensures.seen

pub count-left-requires : goal.count-left-requires
count-left-requires g t c κs within = search (
  rules,
  c.node.ensures.well_formed,
  (fork_count (of_content Fork c.in-Fork.is c.as_ref-fork.ensures) c.requires.well_formed
      (c.node.ensures.seen ∙ c.index.ensures) refl).size_is,
  c.requires.fits,
)

pub count-right-requires : goal.count-right-requires
count-right-requires g t c κs within = search (
  rules,
  c.node-in-Fork.ensures.well_formed,
  (fork_count (of_content Fork c.in-Fork.is c.as_ref-fork.ensures) c.requires.well_formed refl
      (c.node-in-Fork.ensures.seen ∙ c.index-in-Fork.ensures)).size_is,
  c.requires.fits,
)

pub overflow_add-result : goal.overflow_add-result
overflow_add-result g t c = let f = fork g t c in
    omega (arith, f.size_is, c.requires.fits, c.count-left.ensures.few f.some.0 (inl f.low.0))

pub overflow_add-result-in-Fork : goal.overflow_add-result-in-Fork
overflow_add-result-in-Fork g t c =
    let f = fork g t c in omega (
      arith,
      f.size_is,
      c.requires.fits,
      c.count-left.ensures.few f.some.0 (inl f.low.0),
      c.count-right.ensures.few f.some.1 (inl f.low.1),
    )

pub count-requires : goal.count-requires
count-requires g t c κs within = search (
  rules,
  c.node-in-Stem.ensures.well_formed,
  (stem_count (of_content Stem c.in-Stem.is c.deref.ensures) c.requires.well_formed
      c.node-in-Stem.ensures.seen).size_is,
  c.requires.fits,
)

pub overflow_add-result-in-Stem : goal.overflow_add-result-in-Stem
overflow_add-result-in-Stem g t c = let s = stem g t c in
    omega (arith, s.size_is, c.requires.fits, c.count.ensures.few s.some (inl s.low))

pub returns-in-Singleton-clause-exact : goal.returns-in-Singleton-clause-exact
returns-in-Singleton-clause-exact g t c = rw c.in-Singleton.is
    (counted_lone _ _ _ (rw c.in-Singleton.is at c.requires.well_formed).formed)

pub returns-in-Singleton-clause-fewer : goal.returns-in-Singleton-clause-fewer
returns-in-Singleton-clause-fewer g t c = λ s. omega (arith, splits_more (held_by c.args.self.now) s)

pub returns-in-Empty-clause-exact : goal.returns-in-Empty-clause-exact
returns-in-Empty-clause-exact g t c = rw (c.in-Empty.is, len-empty bits_cmp (List ℕ))

pub returns-in-Empty-clause-fewer : goal.returns-in-Empty-clause-fewer
returns-in-Empty-clause-fewer g t c = λ s. omega (arith, splits_more (held_by c.args.self.now) s)

pub returns-in-Fork-clause-exact : goal.returns-in-Fork-clause-exact
returns-in-Fork-clause-exact g t c = omega (
  arith,
  (fork g t c).exact,
  c.count-left.ensures.exact,
  c.count-right.ensures.exact,
)

pub returns-in-Fork-clause-few : goal.returns-in-Fork-clause-few
returns-in-Fork-clause-few g t c = λ _ _. let f = fork g t c in
    omega (
      arith,
      f.size_is,
      c.count-left.ensures.few f.some.0 (inl f.low.0),
      c.count-right.ensures.few f.some.1
          (inl f.low.1),
    )

pub returns-in-Fork-clause-fewer : goal.returns-in-Fork-clause-fewer
returns-in-Fork-clause-fewer g t c = λ _. let f = fork g t c in
    omega (
      arith,
      f.size_is,
      c.count-left.ensures.few f.some.0 (inl f.low.0),
      c.count-right.ensures.few f.some.1
          (inl f.low.1),
    )

pub returns-in-Stem-clause-exact : goal.returns-in-Stem-clause-exact
returns-in-Stem-clause-exact g t c = omega (arith, (stem g t c).exact, c.count.ensures.exact)

pub returns-in-Stem-clause-few : goal.returns-in-Stem-clause-few
returns-in-Stem-clause-few g t c = λ _ more. let s = stem g t c in
    omega (arith, s.size_is, c.count.ensures.fewer (s.splits more))

pub returns-in-Stem-clause-fewer : goal.returns-in-Stem-clause-fewer
returns-in-Stem-clause-fewer g t c = λ h. absurd ((stem g t c).runs h)
