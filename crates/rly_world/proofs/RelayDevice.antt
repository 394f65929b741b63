-- A device after one more call.
use Rattle.std.proofs.Common.{◌≡◌, ◌++◌, ◌∷◌, [], ℕ, List, refl}
use Rattle.rly_disk.specs.Trace.{DeviceEvent, FailedRead, FailedSync, FailedWrite, Read, Sync, Write}
use Rattle.rly_disk.specs.Trace.{images_after, images_at_end, seen_after, seen_at_end}
use Rattle.rly_disk.proofs.Traces.{end_joined, seen_joined}
use Rattle.rly_world.specs.RelayWorld.{Device, IsImageOf, asked_of, seen_of}

-- one list after another
end_parted : (first second : List DeviceEvent) (seen : List ℕ) (I : List ℕ → Type 0) (c : List ℕ)
    → images_at_end (first ++ second) seen I c
    → images_at_end second (seen_at_end first seen) (images_at_end first seen I) c
end_parted [] second seen I c image = image
end_parted (event ∷ first) second seen I c image =
    end_parted first second (seen_after event seen) (images_after event seen I) c image

pub asked_seen : (device : Device) (call : DeviceEvent)
    → seen_of (asked_of device call) ≡ seen_after call (seen_of device)
asked_seen device (Read place count) = seen_joined device.since (Read place count ∷ []) device.synced
asked_seen device (FailedRead place count) = seen_joined device.since (FailedRead place count ∷ []) device.synced
asked_seen device (Write place bytes) = seen_joined device.since (Write place bytes ∷ []) device.synced
asked_seen device (FailedWrite place bytes left) =
    seen_joined device.since (FailedWrite place bytes left ∷ []) device.synced
asked_seen device Sync = refl
asked_seen device FailedSync = seen_joined device.since (FailedSync ∷ []) device.synced

pub asked_image : (device : Device) (call : DeviceEvent) (c : List ℕ)
    → IsImageOf (asked_of device call) c → images_after call (seen_of device) (IsImageOf device) c
asked_image device (Read place count) c image =
    end_parted device.since (Read place count ∷ []) device.synced (λ d. d ≡ device.synced) c image
asked_image device (FailedRead place count) c image =
    end_parted device.since (FailedRead place count ∷ []) device.synced (λ d. d ≡ device.synced) c image
asked_image device (Write place bytes) c image =
    end_parted device.since (Write place bytes ∷ []) device.synced (λ d. d ≡ device.synced) c image
asked_image device (FailedWrite place bytes left) c image =
    end_parted device.since (FailedWrite place bytes left ∷ []) device.synced (λ d. d ≡ device.synced) c image
asked_image device Sync c image = image
asked_image device FailedSync c image =
    end_parted device.since (FailedSync ∷ []) device.synced (λ d. d ≡ device.synced) c image

pub image_asked : (device : Device) (call : DeviceEvent) (c : List ℕ)
    → images_after call (seen_of device) (IsImageOf device) c → IsImageOf (asked_of device call) c
image_asked device (Read place count) c image =
    end_joined device.since (Read place count ∷ []) device.synced (λ d. d ≡ device.synced) c image
image_asked device (FailedRead place count) c image =
    end_joined device.since (FailedRead place count ∷ []) device.synced (λ d. d ≡ device.synced) c image
image_asked device (Write place bytes) c image =
    end_joined device.since (Write place bytes ∷ []) device.synced (λ d. d ≡ device.synced) c image
image_asked device (FailedWrite place bytes left) c image =
    end_joined device.since (FailedWrite place bytes left ∷ []) device.synced (λ d. d ≡ device.synced) c image
image_asked device Sync c image = image
image_asked device FailedSync c image =
    end_joined device.since (FailedSync ∷ []) device.synced (λ d. d ≡ device.synced) c image
