use Rattle.rly_posts.proofs.Led.{led}
use Rattle.rly_posts.proofs.laws.law_files_are_led.Goals as goal

pub returns : goal.returns
returns c = led
