-- What is told to have been written lies in the line.
use Rattle.daylist.proofs.Refusing.{said-inside, said-whole}
use Rattle.daylist.proofs.Ending.say_plant.Goals as goal

pub slice_bounds-line-end : goal.slice_bounds-line-end
slice_bounds-line-end g c = said-inside c.plant_line-n.ensures c.plant_line-n.auto.line

pub slice_bounds-write_all-end-2 : goal.slice_bounds-write_all-end-2
slice_bounds-write_all-end-2 g c = said-whole c.plant_line-n.ensures c.plant_line-n.auto.line
