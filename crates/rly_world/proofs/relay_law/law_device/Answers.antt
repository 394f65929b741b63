use Rattle.rly_world.proofs.RelayDevice.{asked_image, asked_seen, image_asked}
use Rattle.rly_world.proofs.relay_law.law_device.Goals as goal

pub returns-clause-seen : goal.returns-clause-seen
returns-clause-seen c = asked_seen

pub returns-clause-images : goal.returns-clause-images
returns-clause-images c device call image = (asked_image device call image, image_asked device call image)
