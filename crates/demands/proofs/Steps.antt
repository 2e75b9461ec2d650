-- The step over the width, from the laws of words.
use Rattle.demands.specs.Steps.{StepsOverTheWidth}
use Rattle.words.proofs.StepLaws.{step_up, step_up_end, step_down, step_down_end, step_below}

pub steps_over_the_width : StepsOverTheWidth
steps_over_the_width = record { up = step_up; up_end = step_up_end; down = step_down; down_end = step_down_end; below = step_below }
