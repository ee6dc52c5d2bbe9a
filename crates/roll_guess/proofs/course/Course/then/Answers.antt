use Rattle.std.proofs.Common.{rules}
use Rattle.roll_guess.proofs.Courses.{course_further}
use Rattle.roll_guess.proofs.course.Course.then.Goals as goal

pub returns-clause-course : goal.returns-clause-course
returns-clause-course c =
    course_further c.args.habits.now c.args.self.now _ c.args.word c.chance.result c.requires.course
    (search rules) c.then.ensures c.chance.ensures c.portion.ensures
